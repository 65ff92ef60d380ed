-- Document 02, A6: holidays that move from their Sunday to the next day, in the answers of a tick that is the first since power-up; and
-- the site file that has their fifth number, or has not. Three proofs, `moved_holidays`, `five_numbers` and `from_before`, show it all.
use Rattle.std.specs.Prelude.{ℕ, zero, suc, ◌+◌, ◌≡◌, cond, ◌&&◌, List, [], ◌∷◌, ◌++◌, eqb, length, replicate, None, Ok}
use Rattle.numbers.specs.Words.{bytes}
use Rattle.ranges.specs.declared.Section.TheVariants.{Timings}
use Rattle.ranges.specs.Sections.{greatest_of}
use Rattle.calendar.specs.declared.day.Date.{Date}
use Rattle.calendar.specs.Dates.{is_date, date_of, weekday_of}
use Rattle.refusals.specs.declared.Refusal.TheVariants.{ShortFile, BadHoliday}
use Rattle.site.specs.declared.Site.{Site}
use Rattle.site.specs.Reading.{longest_file, refused, read_of}
use Rattle.site.specs.Writing.{part_of, bytes_of}
use Rattle.site.specs.RowsOfFour.{RowsOfFour}
use Rattle.worked_runs.specs.SiteA.{least_site}
use Rattle.worked_runs.specs.PastMidnight.{every_day, site_of, answered}

-- The fixed date of a month and day, which moves (1) or not (0).
abbrev pub fixed_on : ℕ → ℕ → ℕ → List ℕ
fixed_on month day moves = 1 ∷ month ∷ day ∷ 0 ∷ moves ∷ []

-- A site with these holidays, and with each day's own entry from 06:00 on: Sunday's, 1, to Saturday's, 7, and that of holidays, 8.
abbrev pub observing : List ℕ → Site
observing = site_of every_day

abbrev pub cesar_chavez : Site
cesar_chavez = observing (fixed_on 3 31 1)

abbrev pub new_years_eve : Site
new_years_eve = observing (fixed_on 12 31 1)

abbrev pub leap_day : Site
leap_day = observing (fixed_on 2 29 1)

-- 31 March stays on its Sunday.
abbrev pub fixed_sunday : Site
fixed_sunday = observing (fixed_on 3 31 0)

-- The final Sunday of March is a holiday by a row of its own.
abbrev pub both_days : Site
both_days = observing (fixed_on 3 31 1 ++ (2 ∷ 3 ∷ 5 ∷ 0 ∷ 0 ∷ []))

-- New Year's Day and the day before it.
abbrev pub two_in_a_row : Site
two_in_a_row = observing (fixed_on 12 31 1 ++ fixed_on 1 1 1)

-- Tenths of the day: noon; and midnight, at which the entry of an earlier day is in force.
abbrev pub noon : ℕ
noon = 432000

abbrev pub midnight : ℕ
midnight = 0

-- Those of the next n years from this one on whose 29 February is a Sunday.
abbrev leap_sundays : ℕ → ℕ → List ℕ
leap_sundays year zero = []
leap_sundays year (suc n) =
    let date : Date = date_of year 2 29 in
    cond (is_date date && eqb (weekday_of date) 0) (year ∷ []) [] ++ leap_sundays (year + 1) n

pub record MovedHolidays : Type 0 where
  -- "With it set, 1 April 2024 is the holiday", and its Sunday "an ordinary one";
  pub sunday : answered cesar_chavez 2024 3 31 noon ≡ (None, 0, 1)
  pub monday : answered cesar_chavez 2024 4 1 noon ≡ (None, 7, 8)
  -- the look back finds the Sunday's entry on the holiday, and the holiday's on the day after.
  pub monday_night : answered cesar_chavez 2024 4 1 midnight ≡ (None, 7, 1)
  pub tuesday_night : answered cesar_chavez 2024 4 2 midnight ≡ (None, 2, 8)
  pub tuesday : answered cesar_chavez 2024 4 2 noon ≡ (None, 2, 3)
  -- "Otherwise 0": the Sunday is the holiday.
  pub stays_sunday : answered fixed_sunday 2024 3 31 noon ≡ (None, 7, 8)
  pub plain_monday : answered fixed_sunday 2024 4 1 noon ≡ (None, 1, 2)
  -- "When it is a Sunday": on a Monday and on a Saturday it stays.
  pub stays_monday : answered cesar_chavez 2025 3 31 noon ≡ (None, 7, 8)
  pub then_tuesday : answered cesar_chavez 2025 4 1 noon ≡ (None, 2, 3)
  pub stays_saturday : answered cesar_chavez 2029 3 31 noon ≡ (None, 7, 8)
  pub then_sunday : answered cesar_chavez 2029 4 1 noon ≡ (None, 0, 1)
  -- "Unless another row names it."
  pub named_sunday : answered both_days 2024 3 31 noon ≡ (None, 7, 8)
  pub monday_too : answered both_days 2024 4 1 noon ≡ (None, 7, 8)
  -- "The move may cross a month or a year." Onto another holiday, it goes no farther.
  pub last_of_2023 : answered new_years_eve 2023 12 31 noon ≡ (None, 0, 1)
  pub first_of_2024 : answered new_years_eve 2024 1 1 noon ≡ (None, 7, 8)
  pub second_of_2024 : answered two_in_a_row 2024 1 2 noon ≡ (None, 2, 3)
  -- 29 February is a Sunday in four years, 2032 among them; in 2028 it stays, and in 2027, whose 28 February is a Sunday, there is none.
  pub leap_sundays_lem : leap_sundays 2000 100 ≡ (2004 ∷ 2032 ∷ 2060 ∷ 2088 ∷ [])
  pub leap_sunday : answered leap_day 2032 2 29 noon ≡ (None, 0, 1)
  pub leap_monday : answered leap_day 2032 3 1 noon ≡ (None, 7, 8)
  pub leap_tuesday : answered leap_day 2028 2 29 noon ≡ (None, 7, 8)
  pub no_leap_day : answered leap_day 2027 3 1 noon ≡ (None, 1, 2)
  -- 31 December 1999 was a Friday.
  pub first_day : answered new_years_eve 2000 1 1 noon ≡ (None, 6, 7)

-- So many of the same row.
abbrev times : ℕ → List ℕ → List ℕ
times zero row = []
times (suc n) row = row ++ times n row

-- As many rows as there can be: holidays that move, and one level throughout.
abbrev pub longest : Site
longest =
    let full : Site = site_of (replicate 16 (127, 360)) (times 16 (fixed_on 3 31 1)) in
    record {
      timings = full.timings;
      entries = full.entries;
      plan = full.plan;
      holidays = full.holidays;
      dates = full.dates;
      levels = 24;
      tables = times 24 (1 ∷ 1 ∷ 1 ∷ 1 ∷ 150 ∷ []);
    }

-- Of a site with eight entries the fifth number of the first holiday is at byte 128.
pub record FiveNumbers : Type 0 where
  -- "The file's round trip covers the new record."
  pub moving : read_of (bytes_of cesar_chavez) ≡ Ok cesar_chavez
  -- "A fifth number of 1 on kinds 2 and 3, or above 1, is the old 5."
  pub above_1 : read_of (bytes_of (observing (fixed_on 3 31 2))) ≡ refused BadHoliday 128
  pub on_kind_2 : read_of (bytes_of (observing (2 ∷ 11 ∷ 4 ∷ 4 ∷ 1 ∷ []))) ≡ refused BadHoliday 128
  pub on_kind_3 : read_of (bytes_of (observing (3 ∷ 11 ∷ 4 ∷ 4 ∷ 1 ∷ []))) ≡ refused BadHoliday 128
  -- The longest file.
  pub longest_file_lem : length (bytes_of longest) ≡ longest_file
  pub longest_is : longest_file ≡ 602
  pub longest_accepted : read_of (bytes_of longest) ≡ Ok longest

-- A file of before: no plan entries, holidays in rows of four after their count, and one level.
abbrev pub file_before : List ℕ → List ℕ
file_before holidays =
    bytes (part_of Timings (greatest_of Timings) (least_site 0).timings ++ (0 ∷ (holidays ++ (1 ∷ 1 ∷ 1 ∷ 1 ∷ 1 ∷ 150 ∷ []))))

-- 31 March; 31 March and New Year's Day.
abbrev pub march_before : List ℕ
march_before = file_before (1 ∷ 1 ∷ 3 ∷ 31 ∷ 0 ∷ [])

abbrev pub two_before : List ℕ
two_before = file_before (2 ∷ 1 ∷ 3 ∷ 31 ∷ 0 ∷ 1 ∷ 1 ∷ 1 ∷ 0 ∷ [])

-- Both are what `RowsOfFour` says. The first ends within the levels; in the second New Year's Day's weekday stands where a day should.
pub record FromBefore : Type 0 where
  pub march : RowsOfFour march_before
  pub two : RowsOfFour two_before
  pub march_refused : read_of march_before ≡ refused ShortFile 60
  pub two_refused : read_of two_before ≡ refused BadHoliday 54
