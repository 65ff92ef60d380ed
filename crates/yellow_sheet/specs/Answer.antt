-- What the program writes on standard output of a speed and a grade.
use Rattle.std.specs.Prelude.{ℕ, List, [], ◌++◌, ℤ, Result, Ok, Err}
use Rattle.text.specs.Ascii.{ascii}
use Rattle.text.specs.Decimal.{decimal, signed}
use Rattle.refusals.specs.Numbers.{number_of}
use Rattle.phrases.specs.Phrases.{blank_and_seconds, refused_line}
use Rattle.word_value.specs.Signed.{Word}
use Rattle.refusals.specs.declared.Refusal.{Refusal}
use Rattle.slope.specs.Slope.{yellow_at}

-- One yellow in ticks and in seconds, ready for a site's text: that has the ticks in front, and is not read behind a #.
unfoldable pub ticks_text : ℕ → List ℕ
ticks_text ticks = decimal ticks ++ (ascii " # ticks, yellow" ++ blank_and_seconds ticks)

unfoldable pub yellow_line : ℤ → ℤ → ℕ → List ℕ
yellow_line v s ticks = ticks_text ticks ++ (ascii " s at " ++ (signed v ++ (ascii " km/h and " ++ (signed s ++ ascii " per mille\n"))))

abbrev pub answer_with : ℤ → ℤ → Result ℕ Refusal → List ℕ
answer_with v s (Ok ticks) = yellow_line v s ticks
answer_with v s (Err refusal) = refused_line (number_of refusal)

unfoldable pub answer_to : ℤ → ℤ → List ℕ
answer_to v s = answer_with v s (yellow_at v s)

-- Where one of the two words is no number, nothing.
abbrev pub answer_of : Word → Word → List ℕ
answer_of (Ok v) (Ok s) = answer_to v s
answer_of (Ok v) (Err e) = []
answer_of (Err e) grade = []
