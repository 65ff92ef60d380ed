-- Document 01, 'One tick's input': "year 2000-2099, a true date"; 'Day and entry': "1 January 2000 is a Saturday; every fourth year from
-- 2000 is leap."
use Rattle.std.specs.Prelude.{ℕ, ◌+◌, ◌-◌, ◌*◌, ◌/◌, ◌%◌, Bool, cond, ◌&&◌, List, [], ◌∷◌, ltb, eqb, get_or}
use Rattle.numbers.specs.declared.Range.{Range}
use Rattle.numbers.specs.Within.{between, is_within}
use Rattle.calendar.specs.declared.day.Date.{Date}

-- Days of a year that is not leap before each of its months, and before its end.
abbrev pub table : List ℕ
table = 0 ∷ 31 ∷ 59 ∷ 90 ∷ 120 ∷ 151 ∷ 181 ∷ 212 ∷ 243 ∷ 273 ∷ 304 ∷ 334 ∷ 365 ∷ []

-- "Every fourth year from 2000 is leap."
abbrev pub is_leap : ℕ → Bool
is_leap year = eqb (year % 4) 0

-- Days of the year before this month; a leap year has its 29 February before March.
unfoldable pub days_before : ℕ → ℕ → ℕ
days_before year month = get_or table (month - 1) 0 + cond (is_leap year && ltb 2 month) 1 0

unfoldable pub month_length : ℕ → ℕ → ℕ
month_length year month = days_before year (month + 1) - days_before year month

-- "Year 2000-2099."
abbrev pub years : Range
years = between 2000 2099

abbrev pub months : Range
months = between 1 12

-- The days of a month; a month that there is not has none.
abbrev pub days_of : ℕ → ℕ → Range
days_of year month = between 1 (month_length year month)

-- "Year 2000-2099, a true date."
unfoldable pub is_date : Date → Bool
is_date date = is_within years date.year && is_within months date.month && is_within (days_of date.year date.month) date.day

abbrev pub date_of : ℕ → ℕ → ℕ → Date
date_of year month day = record { year = year; month = month; day = day }

-- The last day of a month.
unfoldable pub last_of : ℕ → ℕ → Date
last_of year month = date_of year month (month_length year month)

-- The day before; that of 1 January 2000 is 31 December 1999, which is no date.
unfoldable pub day_before : Date → Date
day_before date =
    cond (ltb 1 date.day) (date_of date.year date.month (date.day - 1))
    (cond (ltb 1 date.month) (last_of date.year (date.month - 1)) (last_of (date.year - 1) 12))

-- Days from 1 January 2000: those of the years before, one more for each leap year among them, and those of its own year.
unfoldable pub day_number : Date → ℕ
day_number date =
    (date.year - 2000) * 365 + (date.year - 2000 + 3) / 4 + days_before date.year date.month + (date.day - 1)

-- "1 January 2000 is a Saturday"; Sunday is 0.
unfoldable pub weekday_of : Date → ℕ
weekday_of date = (day_number date + 6) % 7
