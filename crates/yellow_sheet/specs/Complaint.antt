-- What the program writes on standard error of a speed and a grade, and of a number of arguments.
use Rattle.std.specs.Prelude.{ℕ, Bool, cond, List, [], ◌++◌, ℤ, Ok, Err}
use Rattle.text.specs.Ascii.{ascii}
use Rattle.text.specs.Decimal.{signed}
use Rattle.refusals.specs.Numbers.{number_of}
use Rattle.phrases.specs.Phrases.{wanted_line}
use Rattle.refusals.specs.declared.Refusal.TheVariants.{BadApproach}
use Rattle.phrases.specs.Wrong.{opening_text}
use Rattle.word_value.specs.declared.signed.BadWord.TheVariants.{Empty, TooLong, NoNumber}
use Rattle.word_value.specs.Signed.{Word}
use Rattle.slope.specs.Slope.{least_speed, most_speed, least_grade, most_grade, speed_in, grade_in}

unfoldable pub usage_line : List ℕ
usage_line = ascii "usage: yellow_sheet [SPEED GRADE]\n"

-- `the speed is empty`, `the grade is longer than 4096 bytes`.
unfoldable pub named_line : List ℕ → List ℕ → List ℕ
named_line name what = ascii "the " ++ (name ++ what)

-- `speed 081`, with the word as it was given.
unfoldable pub given_text : List ℕ → List ℕ → List ℕ
given_text name word = name ++ (ascii " " ++ word)

-- `speed abc is no number`.
unfoldable pub no_number_line : List ℕ → List ℕ → List ℕ
no_number_line name word = given_text name word ++ ascii " is no number\n"

-- The line of a word that is no number; of a number there is none.
abbrev pub word_line : List ℕ → List ℕ → Word → List ℕ
word_line name word (Err Empty) = named_line name (ascii " is empty\n")
word_line name word (Err TooLong) = named_line name (ascii " is longer than 4096 bytes\n")
word_line name word (Err NoNumber) = no_number_line name word
word_line name word (Ok z) = []

-- Each of the two words that is no number gets its line; behind them stands how the program is used.
unfoldable pub not_numbers : List ℕ → Word → List ℕ → Word → List ℕ
not_numbers speed v grade s = word_line (ascii "speed") speed v ++ (word_line (ascii "grade") grade s ++ usage_line)

-- `bad approach: speed 081, allowed 20-80`.
unfoldable pub range_line : List ℕ → List ℕ → ℤ → List ℕ → ℤ → List ℕ
range_line name word low to high =
    opening_text (number_of BadApproach) ++ (given_text name word ++ (ascii ", allowed " ++ (signed low ++ (to ++ (signed high ++ ascii "\n")))))

-- A line, unless the number is in range.
unfoldable pub unless_in : Bool → List ℕ → List ℕ
unless_in good line = cond good [] line

-- The lines of a speed and of a grade; one that is in range has none.
unfoldable pub ranges_of : List ℕ → ℤ → List ℕ → ℤ → List ℕ
ranges_of speed v grade s =
    unless_in (speed_in v) (range_line (ascii "speed") speed least_speed (ascii "-") most_speed)
    ++ unless_in (grade_in s) (range_line (ascii "grade") grade least_grade (ascii " to ") most_grade)

-- Where both words are numbers, the lines of those that are out of range; else those of the words that are none.
abbrev pub complaint_of : List ℕ → Word → List ℕ → Word → List ℕ
complaint_of speed (Ok v) grade (Ok s) = ranges_of speed v grade s
complaint_of speed (Ok v) grade (Err e) = not_numbers speed (Ok v) grade (Err e)
complaint_of speed (Err e) grade s = not_numbers speed (Err e) grade s

-- `1 argument, none or 2 wanted`, `3 arguments, none or 2 wanted`.
unfoldable pub wrong_count : ℕ → List ℕ
wrong_count count = wanted_line count (ascii "none or 2") ++ usage_line
