-- The districts' sheet: a line for each speed, and on it the yellow at each grade in steps of 10 per mille, in seconds with one decimal.
use Rattle.std.specs.Prelude.{ℕ, ◌+◌, ◌-◌, List, ◌++◌, ℤ, pos, nat_abs, ◌+ℤ◌, ◌*ℤ◌}
use Rattle.text.specs.Ascii.{ascii}
use Rattle.text.specs.Decimal.{decimal, signed}
use Rattle.text.specs.Joined.{joined}
use Rattle.phrases.specs.Phrases.{blank_and_seconds}
use Rattle.slope.specs.Slope.{least_speed, most_speed, least_grade, yellow_at, ticks_given}

-- The grade of a column, from 0: -80, -70 and so on.
abbrev pub grade_of : ℕ → ℤ
grade_of column = least_grade +ℤ pos 10 *ℤ pos column

-- The heading's grades, 17 of them, up to 80.
unfoldable pub grade_text : ℕ → List ℕ
grade_text column = ascii " " ++ signed (grade_of column)

abbrev pub grade_texts : List ℕ
grade_texts = joined grade_text 0 17

-- The yellows of a speed, in seconds.
unfoldable pub yellow_text : ℕ → ℕ → List ℕ
yellow_text speed column = blank_and_seconds (ticks_given (yellow_at (pos speed) (grade_of column)))

abbrev pub yellow_texts : ℕ → List ℕ
yellow_texts speed = joined (yellow_text speed) 0 17

unfoldable pub speed_line : ℕ → List ℕ
speed_line speed = decimal speed ++ (yellow_texts speed ++ ascii "\n")

-- The lines of all speeds in range.
abbrev pub speed_lines : List ℕ
speed_lines = joined speed_line (nat_abs least_speed) (nat_abs most_speed + 1 - nat_abs least_speed)

unfoldable pub sheet_text : List ℕ
sheet_text = ascii "speed" ++ (grade_texts ++ (ascii "\n" ++ speed_lines))
