-- Document 01, 'Day and entry', and document 02, 'Cesar Chavez Day': which dates a row names, and what the day type of a date is, in words
-- about dates.
use Rattle.std.specs.Prelude.{ℕ, ◌+◌, ◌<◌, ◌≡◌, true, List}
use Rattle.calendar.specs.declared.day.Date.{Date}
use Rattle.calendar.specs.declared.Row.{Row}
use Rattle.calendar.specs.Dates.{is_date, day_number, weekday_of}
use Rattle.calendar.specs.Days.{today_of, yesterday_of}
use Rattle.calendar.specs.Holidays.{row_of, is_floating}

-- "The day of that month", in whatever year.
pub record OnDay (date : Date) (row : Row) : Type 0 where
  pub month : date.month ≡ row.month
  pub day : date.day ≡ row.nth

abbrev pub Sunday : Date → Type 0
Sunday date = weekday_of date ≡ 0

-- This date is the day after that one, which is a true date; the month and the year may be others.
pub record DayAfter (date before : Date) : Type 0 where
  pub is_date_lem : is_date before ≡ true
  pub number : day_number date ≡ day_number before + 1

-- A row is of "a fixed date that moves".
pub record Moves (row : Row) : Type 0 where
  pub kind : row.kind ≡ 1
  pub set : row.moves ≡ 1

-- "A fixed date that moves to the next day when it is a Sunday": a date is a holiday by such a row exactly if it is the row's date
-- and no Sunday, or the day after the row's date where this is a Sunday.
pub data ByMove (date : Date) (row : Row) : Type 0 where
  stays : OnDay date row → (Sunday date → ⊥) → ByMove date row
  moved : (sunday : Date) → DayAfter date sunday → OnDay sunday row → Sunday sunday → ByMove date row

-- A row names a date. Kinds 2 and 3 are as in document 01.
pub data Names (date : Date) (row : Row) : Type 0 where
  moving : Moves row → ByMove date row → Names date row
  fixed : row.kind ≡ 1 → (row.moves ≡ 1 → ⊥) → OnDay date row → Names date row
  floating : row.kind ≡ 2 → is_floating (today_of date) row ≡ true → Names date row
  day_after : row.kind ≡ 3 → is_floating (yesterday_of date) row ≡ true → Names date row

-- One of the first count rows names a date.
pub record Named (date : Date) (rows : List ℕ) (count : ℕ) : Type 0 where
  pub row : ℕ
  pub listed : row < count
  pub names : Names date (row_of rows row)

-- The day type of a date at a site with these holidays.
pub record Typed (date : Date) (rows : List ℕ) (count day : ℕ) : Type 0 where
  -- "A holiday has day type Holiday and no other": it is Holiday exactly if a row names the date, and else its weekday.
  pub holiday : Named date rows count → day ≡ 7
  pub only : day ≡ 7 → Named date rows count
  pub ordinary : (Named date rows count → ⊥) → day ≡ weekday_of date
  -- "A moved holiday leaves its Sunday an ordinary one unless another row names it."
  pub leaves : (i : ℕ) → i < count → Moves (row_of rows i) → OnDay date (row_of rows i) → Sunday date
      → ((j : ℕ) → j < count → (j ≡ i → ⊥) → Names date (row_of rows j) → ⊥) → day ≡ 0
