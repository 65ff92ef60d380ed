-- Which number of a tick's input is out of range, in one line: `bad sample: metered lane 2, demand 2, allowed 0-1 (line 353)`.
use Rattle.std.specs.Prelude.{ℕ, ◌≡◌, List, [], ◌++◌, Option, Some, None}
use Rattle.refusals.specs.declared.Refusal.{Refusal}
use Rattle.text.specs.Ascii.{ascii}
use Rattle.text.specs.Decimal.{decimal}
use Rattle.refusals.specs.Numbers.{number_of}
use Rattle.phrases.specs.Wrong.{opening_text, not_allowed_text}
use Rattle.timings.specs.declared.Shape.{Shape}
use Rattle.tick.specs.declared.Input.{Input}
use Rattle.tick.specs.Checks.{input_refusal}
use Rattle.tick_diagnosis.specs.declared.number.Number.{Number}
use Rattle.tick_diagnosis.specs.Numbers.{first_bad}
use Rattle.tick_diagnosis.specs.Names.{refusal_of, part_text, name_text}

-- Where: ` (line K)`.
unfoldable pub place_text : ℕ → List ℕ
place_text line = ascii " (line " ++ (decimal line ++ ascii ")\n")

-- A number with the range that it is not in: `metered lane 2, demand 2, allowed 0-1`.
unfoldable pub out_of_range_text : Number → List ℕ
out_of_range_text x = part_text x.part ++ (name_text x.part x.column ++ not_allowed_text x.value x.low x.high)

-- The line of a number that is out of range.
unfoldable pub number_line : ℕ → Number → List ℕ
number_line line x = opening_text (number_of (refusal_of x.part)) ++ (out_of_range_text x ++ place_text line)

-- That of the first number out of range. There is no text where none is.
abbrev pub wrong_line : ℕ → Option Number → List ℕ
wrong_line line None = []
wrong_line line (Some x) = number_line line x

unfoldable pub diagnosis_line : ℕ → Shape → Input → List ℕ
diagnosis_line line h i = wrong_line line (first_bad h i)

-- What a text says of the input on a line, whatever is wrong: nothing where the checks 8, 9 and 10 pass; else it begins with the trade word
-- of the refusal that they give, and ends with the place.
pub record Diagnosed (line : ℕ) (h : Shape) (i : Input) (text : List ℕ) : Type 0 where
  pub silent : input_refusal h i ≡ None → text ≡ []
  pub says : (refusal : Refusal) → input_refusal h i ≡ Some refusal → (wrong : List ℕ) × (text ≡ opening_text (number_of refusal) ++ (wrong ++ place_text line))
