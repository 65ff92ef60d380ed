-- Document 02, 'Plans that run past midnight': "With no entry begun today, the controller looks at yesterday's day type and takes the
-- latest start there, equal starts as before. It goes back seven days at most, and never before 1 January 2000. Only then is it dark."
--
-- Over any function `at` that gives, for a day type and a minute, the place from 1 of the entry in force there, 0 for none; `rows` and
-- `count` are the site's holidays.
use Rattle.std.specs.Prelude.{ℕ, zero, suc, ◌+◌, ◌≤◌, ◌<◌, ◌≡◌, true, cond, List, eqb}
use Rattle.calendar.specs.declared.day.Date.{Date}
use Rattle.calendar.specs.Dates.{is_date, day_before, day_number}
use Rattle.calendar.specs.Holidays.{day_type_of}

-- "Seven days at most": the last is the same weekday last week.
abbrev pub days_back : ℕ
days_back = 7

-- The last minute of a day: by then every entry of a site's plan has begun.
abbrev pub last_minute : ℕ
last_minute = 1439

-- A place or, where it is none, another.
abbrev pub or_else : ℕ → ℕ → ℕ
or_else place other = cond (eqb place 0) other place

-- The place in force at the end of the day before this one or, where that is none, of the day before that, and so on, n days back; a day
-- "before 1 January 2000" is no date.
abbrev pub earlier : (ℕ → ℕ → ℕ) → List ℕ → ℕ → Date → ℕ → ℕ
earlier at rows count date zero = 0
earlier at rows count date (suc n) =
    let before : Date = day_before date in
    cond (is_date before) (or_else (at (day_type_of before rows count) last_minute) (earlier at rows count before n)) 0

-- The place of the entry in force on this date at this minute; none where there is no such date.
unfoldable pub in_force_now : (ℕ → ℕ → ℕ) → List ℕ → ℕ → Date → ℕ → ℕ
in_force_now at rows count today minute =
    cond (is_date today) (or_else (at (day_type_of today rows count) minute) (earlier at rows count today days_back)) 0

-- This date is so many days before today; 0 days before is today itself.
pub record DaysBefore (today : Date) (days : ℕ) (date : Date) : Type 0 where
  pub is_date_lem : is_date date ≡ true
  pub number : day_number date + days ≡ day_number today

-- What is in force on that date: at the minute now today, at the day's end before.
abbrev pub place_on : (ℕ → ℕ → ℕ) → List ℕ → ℕ → ℕ → ℕ → Date → ℕ
place_on at rows count minute zero date = at (day_type_of date rows count) minute
place_on at rows count minute (suc days) date = at (day_type_of date rows count) last_minute

-- The same in words: the place is the one in force on the most recent of today and the seven dates before on which one is; it is 0 where
-- there is none, and "only then".
pub record InForceNow (at : ℕ → ℕ → ℕ) (rows : List ℕ) (count : ℕ) (today : Date) (minute place : ℕ) : Type 0 where
  pub most_recent : (k : ℕ) (d : Date) → k ≤ days_back → DaysBefore today k d → (place_on at rows count minute k d ≡ 0 → ⊥)
      → ((j : ℕ) (e : Date) → j < k → DaysBefore today j e → place_on at rows count minute j e ≡ 0)
      → place ≡ place_on at rows count minute k d
  pub none : ((k : ℕ) (d : Date) → k ≤ days_back → DaysBefore today k d → place_on at rows count minute k d ≡ 0) → place ≡ 0
  pub only_then : place ≡ 0 → (k : ℕ) (d : Date) → k ≤ days_back → DaysBefore today k d → place_on at rows count minute k d ≡ 0
