-- The three outcomes of a write, from facts as code finds them.
use Prim.Native.Nat.{ℕ, ◌≤◌, ◌<◌}
use mathlib.Core.Path.{◌≡◌, refl}
use mathlib.Core.List.{List, ◌++◌}
use mathlib.Core.Bool.{Bool, true, false}
use native.Mathlib.Omega.{arith}
use borrow.Author.Tests.{lt-ltb, le-ltb, ltb-false}
use lib.Dec.{ltb}
use lib.ListN.{length, drop}
use Rattle.std.specs.Prelude.{Option, Some, None, Result, Ok, Err, IsOk}
use Rattle.refusals.specs.declared.Refusal.{Refusal}
use Rattle.refusals.specs.declared.Refusal.TheVariants.{SmallBuffer}
use Rattle.output.specs.Output.{answer_of, buffer_of}

-- What a call answers, and what its buffer holds then.
pub record Outcome (earlier : Option Refusal) (text d : List ℕ) (answer : Result ℕ Refusal) (buffer : List ℕ) : Type 0 where
  pub answers : answer ≡ answer_of earlier text d
  pub leaves : buffer ≡ buffer_of earlier text d

pub earlier_refused : (refusal : Refusal) (text d : List ℕ) → Outcome (Some refusal) text d (Err refusal) d
unfolding answer_of buffer_of
earlier_refused refusal text d = record { answers = refl; leaves = refl }

pub too_small : (text d : List ℕ) → length d < length text → Outcome None text d (Err SmallBuffer) d
unfolding answer_of buffer_of
too_small text d h = record { answers = rw (lt-ltb _ _ h); leaves = rw (lt-ltb _ _ h) }

pub accepted : (text d : List ℕ) → length text ≤ length d → Outcome None text d (Ok (length text)) (text ++ drop (length text) d)
unfolding answer_of buffer_of
accepted text d h = record { answers = rw (le-ltb _ _ h); leaves = rw (le-ltb _ _ h) }

-- What is not refused had room.
room_case : (text d : List ℕ) (b : Bool) → ltb (length d) (length text) ≡ b → IsOk (answer_of None text d) → length text ≤ length d
unfolding answer_of
room_case text d true e h = let y = rw e at h in absurd (cc)
room_case text d false e h = ltb-false (length d) (length text) e

pub had_room : (text d : List ℕ) → IsOk (answer_of None text d) → length text ≤ length d
had_room text d h = room_case text d _ refl h

-- No more is written than the buffer holds.
count_case : (text d : List ℕ) (b : Bool) {count : ℕ} → ltb (length d) (length text) ≡ b → answer_of None text d ≡ Ok count → count ≤ length d
unfolding answer_of
count_case text d true e h = let y = rw e at h in absurd (cc)
count_case text d false {count} e h = let y = rw e at h in let same : length text ≡ count = cc in omega (arith, ltb-false (length d) (length text) e)

pub count_fits : (earlier : Option Refusal) (text d : List ℕ) {count : ℕ} → answer_of earlier text d ≡ Ok count → count ≤ length d
unfolding answer_of
count_fits None text d h = count_case text d _ refl h
count_fits (Some refusal) text d h = absurd (cc)
