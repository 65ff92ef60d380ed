-- Document 01, 'Worked runs': what the timetable program prints. "Per day type in bit order, entries by start, equal starts as filed: day,
-- start as hh:mm, mode, rate, table, place in the file from 1, one blank between."
use Rattle.std.specs.Prelude.{ℕ, zero, suc, ◌+◌, ◌*◌, cond, List, [], ◌++◌, eqb, Result, Ok, Err}
use Rattle.text.specs.Ascii.{ascii}
use Rattle.refusals.specs.Numbers.{number_of}
use Rattle.phrases.specs.Phrases.{day_name, blank_and_decimal, refusal_line}
use Rattle.entry_text.specs.EntryText.{timed_text}
use Rattle.plan.specs.declared.Entry.{Entry}
use Rattle.plan.specs.Entry.{entry_of, day_types, on_day}
use Rattle.site.specs.declared.Site.{Site}
use Rattle.site.specs.declared.Misread.{Misread}
use Rattle.site.specs.Reading.{read_of}

-- An entry's line on one day; it is the filed-th of the file.
unfoldable pub line_of : ℕ → Entry → ℕ → List ℕ
line_of day e filed = day_name day ++ (ascii " " ++ (timed_text e ++ (blank_and_decimal filed ++ ascii "\n")))

-- Its line, if it is an entry of that day and starts at that minute.
unfoldable pub line_if : ℕ → ℕ → Entry → ℕ → List ℕ
line_if day minute e filed = cond (on_day e.days day) (cond (eqb e.start minute) (line_of day e filed) []) []

-- "Equal starts as filed": of the next n entries from entry i on, those that start at that minute.
abbrev pub starting_at : List ℕ → ℕ → ℕ → ℕ → ℕ → List ℕ
starting_at rows day minute i zero = []
starting_at rows day minute i (suc n) = line_if day minute (entry_of rows i) (i + 1) ++ starting_at rows day minute (i + 1) n

-- "Entries by start": minute after minute, n minutes from this one on.
abbrev pub minutes_from : List ℕ → ℕ → ℕ → ℕ → ℕ → List ℕ
minutes_from rows count day minute zero = []
minutes_from rows count day minute (suc n) = starting_at rows day minute 0 count ++ minutes_from rows count day (minute + 1) n

abbrev pub day_minutes : ℕ
day_minutes = 1440

-- "Per day type in bit order": n day types from this one on, each with the minutes of a day.
abbrev pub days_from : List ℕ → ℕ → ℕ → ℕ → List ℕ
days_from rows count day zero = []
days_from rows count day (suc n) = minutes_from rows count day 0 day_minutes ++ days_from rows count (day + 1) n

unfoldable pub timetable_of : Site → List ℕ
timetable_of x = ascii "day start mode rate table filed\n" ++ days_from x.plan x.entries 0 day_types

-- What is printed of what reading gave: "A refused file prints only `refused N at P`."
unfoldable pub printed_of : Result Site Misread → List ℕ
printed_of (Ok x) = timetable_of x
printed_of (Err m) = refusal_line (number_of m.refusal) m.place

-- What is printed of a site file's bytes.
abbrev pub text_of : List ℕ → List ℕ
text_of file = printed_of (read_of file)

-- The longest text: a heading of 32 bytes, and on each day type 9 lines of 25 bytes, in places 1 to 9, and 7 of 26.
abbrev pub longest_text : ℕ
longest_text = 32 + day_types * (9 * 25 + 7 * 26)
