-- Document 01, 'The site file', holidays, and 'Day and entry', with document 02's A6.
use Rattle.std.specs.Prelude.{ℕ, zero, suc, ◌+◌, ◌*◌, Bool, false, cond, not, ◌&&◌, ◌||◌, List, eqb, get_or}
use Rattle.ranges.specs.declared.Section.TheVariants.{Holidays}
use Rattle.ranges.specs.Sections.{width_of}
use Rattle.calendar.specs.declared.day.Date.{Date}
use Rattle.calendar.specs.declared.day.Day.{Day}
use Rattle.calendar.specs.declared.Row.{Row}
use Rattle.calendar.specs.Dates.{is_date, weekday_of}
use Rattle.calendar.specs.Days.{today_of, yesterday_of}

-- Kind, month, day or week, weekday, Sunday move: holiday i of a site's rows, the first being 0.
abbrev pub row_of : List ℕ → ℕ → Row
row_of rows i =
    let at : ℕ = i * width_of Holidays in
    record {
      kind = get_or rows at 0;
      month = get_or rows (at + 1) 0;
      nth = get_or rows (at + 2) 0;
      weekday = get_or rows (at + 3) 0;
      moves = get_or rows (at + 4) 0;
    }

-- "The day of that month."
unfoldable pub is_fixed : Day → Row → Bool
is_fixed day row = eqb day.month row.month && eqb day.day row.nth

abbrev pub is_sunday : Day → Bool
is_sunday day = eqb day.weekday 0

-- "1 for a fixed date that moves to the next day when it is a Sunday."
unfoldable pub is_moving : Day → Day → Row → Bool
is_moving today yesterday row = (is_fixed today row && not (is_sunday today)) || (is_fixed yesterday row && is_sunday yesterday)

-- "The week 1-5." "Week 5 means the final such weekday."
unfoldable pub in_week : Day → Row → Bool
in_week day row = eqb day.month row.month && cond (eqb row.nth 5) day.last (eqb day.week row.nth)

-- "The week 1-5 and weekday 0-6, Sunday 0."
unfoldable pub is_floating : Day → Row → Bool
is_floating day row = eqb day.weekday row.weekday && in_week day row

-- "Kind 1 fixed", which moves or not; "2 floating, 3 the day after a floating one". "A date is of kind 3 if the day before (..) is the
-- floating date."
unfoldable pub is_named : Day → Day → Row → Bool
is_named today yesterday row =
    cond (eqb row.kind 1) (cond (eqb row.moves 1) (is_moving today yesterday row) (is_fixed today row))
    (cond (eqb row.kind 2) (is_floating today row)
    (cond (eqb row.kind 3) (is_floating yesterday row) false))

-- Whether one of the first n rows names today.
abbrev pub is_holiday : Day → Day → List ℕ → ℕ → Bool
is_holiday today yesterday rows zero = false
is_holiday today yesterday rows (suc n) = is_named today yesterday (row_of rows n) || is_holiday today yesterday rows n

-- What stands for the day type where there is no day.
abbrev pub no_day : ℕ
no_day = 8

-- 0 Sunday to 6 Saturday, 7 Holiday: "A holiday has day type Holiday and no other." No day where there is no such date.
unfoldable pub day_type_of : Date → List ℕ → ℕ → ℕ
day_type_of date rows count =
    cond (is_date date) (cond (is_holiday (today_of date) (yesterday_of date) rows count) 7 (weekday_of date)) no_day
