-- The lines that the replay program prints.
use Rattle.std.specs.Prelude.{ℕ, ◌+◌, ◌/◌, ◌%◌, cond, List, [], ◌∷◌, ◌++◌, ltb, Option, Some, None}
use Rattle.refusals.specs.declared.Refusal.{Refusal}
use Rattle.refusals.specs.Numbers.{number_of}
use Rattle.text.specs.Ascii.{ascii}
use Rattle.text.specs.Decimal.{decimal}
use Rattle.phrases.specs.Phrases.{blank_and_decimal}
use Rattle.tick.specs.declared.Ticked.{Ticked}
use Rattle.tick_text.specs.Lamps.{lamps_text}
use Rattle.tick_text.specs.Decided.{decided_text}

unfoldable pub heading_line : List ℕ
heading_line = ascii "tick refusal interval age lanes lower sign day entry source level wish rate cycle released bypass\n"

-- The number of a refusal; 0 of none.
abbrev pub refusal_number : Option Refusal → ℕ
refusal_number None = 0
refusal_number (Some refusal) = number_of refusal

-- The refusal, 0 when accepted; the interval and its age after the tick.
unfoldable pub interval_text : Ticked → List ℕ
interval_text t = blank_and_decimal (refusal_number t.refusal) ++ (blank_and_decimal t.state.group.interval ++ blank_and_decimal t.state.group.age)

-- A tick's line, of n lanes: the tick's number from 1, and what the tick gave.
unfoldable pub tick_line : ℕ → ℕ → Ticked → List ℕ
tick_line number n t = decimal number ++ (interval_text t ++ (lamps_text t.shown n ++ (decided_text t ++ ascii "\n")))

-- No tick's line is longer.
abbrev pub longest_tick : ℕ
longest_tick = 250

-- In lowercase hexadecimal: 0 to 9, then a to f.
unfoldable pub hex_digit : ℕ → ℕ
hex_digit n = cond (ltb n 10) (48 + n) (87 + n)

abbrev pub hex_text : List ℕ → List ℕ
hex_text [] = []
hex_text (b ∷ bytes) = hex_digit (b / 16) ∷ hex_digit (b % 16) ∷ hex_text bytes

-- `poll` and the poll record in lowercase hexadecimal.
unfoldable pub poll_line : List ℕ → List ℕ
poll_line bytes = ascii "poll " ++ (hex_text bytes ++ ascii "\n")
