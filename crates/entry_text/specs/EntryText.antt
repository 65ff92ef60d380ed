-- Document 01, 'Worked runs', what the timetable program prints of an entry: "day (Sun, Mon, Tue, Wed, Thu, Fri, Sat, Hol), start as hh:mm,
-- mode (dark, green, fixed, resp), rate, table, .. one blank between".
use Rattle.std.specs.Prelude.{ℕ, ◌/◌, ◌%◌, cond, List, [], ◌∷◌, ◌++◌, get_or}
use Rattle.text.specs.Ascii.{ascii}
use Rattle.text.specs.Decimal.{two_digits}
use Rattle.text.specs.Joined.{joined}
use Rattle.phrases.specs.Phrases.{day_name, blank_and_decimal}
use Rattle.plan.specs.declared.Entry.{Entry}
use Rattle.plan.specs.Entry.{day_types, on_day}

abbrev pub mode_names : List (List ℕ)
mode_names = ascii "dark" ∷ ascii "green" ∷ ascii "fixed" ∷ ascii "resp" ∷ []

unfoldable pub mode_name : ℕ → List ℕ
mode_name mode = get_or mode_names mode []

-- A minute of the day as hh:mm.
abbrev pub clock_text : ℕ → List ℕ
clock_text minute = two_digits (minute / 60) ++ (ascii ":" ++ two_digits (minute % 60))

-- What stands behind the day: `05:30 fixed 600 0`.
unfoldable pub timed_text : Entry → List ℕ
timed_text e = clock_text e.start ++ (ascii " " ++ (mode_name e.mode ++ (blank_and_decimal e.rate ++ blank_and_decimal e.table)))

-- A day's name and a blank, if the days have it.
unfoldable pub day_text : ℕ → ℕ → List ℕ
day_text days day = cond (on_day days day) (day_name day ++ ascii " ") []

-- All of an entry, its days in bit order: `Mon Tue 05:30 fixed 600 0`.
abbrev pub days_text : ℕ → List ℕ
days_text days = joined (day_text days) 0 day_types

unfoldable pub entry_text : Entry → List ℕ
entry_text e = days_text e.days ++ timed_text e
