-- Document 01, 'Refusals': "A refused write touches no byte of the buffer; an accepted one changes only the bytes it writes. It returns
-- how many it wrote, 0 when refused." 11: "the output is shorter than what is written". An `Ok` has that number; an `Err` stands for the 0.
--
-- Each call that writes says two things with these: which refusal its earlier checks give, if any, and the bytes that it writes where
-- they give none. What it answers and what its buffer d holds afterwards are then settled for every buffer.
use Rattle.std.specs.Prelude.{ℕ, cond, List, ◌++◌, ltb, length, drop, Option, Some, None, Result, Ok, Err, is_ok}
use Rattle.refusals.specs.declared.Refusal.{Refusal}
use Rattle.refusals.specs.declared.Refusal.TheVariants.{SmallBuffer}

unfoldable pub answer_of : Option Refusal → List ℕ → List ℕ → Result ℕ Refusal
answer_of None text d = cond (ltb (length d) (length text)) (Err SmallBuffer) (Ok (length text))
answer_of (Some refusal) text d = Err refusal

unfoldable pub buffer_of : Option Refusal → List ℕ → List ℕ → List ℕ
buffer_of earlier text d = cond (is_ok (answer_of earlier text d)) (text ++ drop (length text) d) d
