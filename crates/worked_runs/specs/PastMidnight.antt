-- Document 02, A3: which entry is in force, as a tick answers that is the first since power-up. One proof, `past_midnight`, shows it all.
use Rattle.std.specs.Prelude.{ℕ, ◌-◌, ◌/◌, ◌≡◌, List, [], ◌∷◌, ◌++◌, length, replicate, Option, None}
use Rattle.ranges.specs.declared.Section.TheVariants.{Entries, Holidays, Levels}
use Rattle.ranges.specs.Sections.{width_of, most_of}
use Rattle.site.specs.declared.Site.{Site}
use Rattle.site.specs.Reading.{none_of}
use Rattle.refusals.specs.declared.Refusal.{Refusal}
use Rattle.tick.specs.declared.Input.{Input}
use Rattle.tick.specs.declared.Ticked.{Ticked}
use Rattle.worked_runs.specs.SiteA.{least_site}
use Rattle.worked_runs.specs.Run.{metering_at, answer_at}

-- Days and start minute of a fixed entry.
abbrev pub Start : Type 0
Start = ℕ × ℕ

abbrev rows_of : List Start → List ℕ
rows_of [] = []
rows_of (start ∷ starts) = start.0 ∷ start.1 ∷ 2 ∷ 900 ∷ 0 ∷ rows_of starts

abbrev padded : ℕ → List ℕ → List ℕ
padded all rows = rows ++ replicate (all - length rows) 0

-- Two lanes, every timing at its least, with these fixed entries and rows of holidays.
abbrev pub site_of : List Start → List ℕ → Site
site_of starts dates = record {
  timings = (least_site 0).timings;
  entries = length starts;
  plan = padded (most_of Entries) (rows_of starts);
  holidays = length dates / width_of Holidays;
  dates = padded (most_of Holidays) dates;
  levels = 0;
  tables = none_of Levels;
}

-- No command, at this tenth of a date.
abbrev input_at : ℕ → ℕ → ℕ → ℕ → Input
input_at year month day tenth =
    let quiet : Input = metering_at 900 (replicate 4 0) in
    record {
      clock = record { date = record { year = year; month = month; day = day }; tenth = tenth };
      lanes = quiet.lanes;
      main = quiet.main;
      calls = quiet.calls;
      manual = quiet.centre;
      centre = quiet.centre;
    }

-- Refusal, day type, and place of the entry in force.
abbrev pub answered : Site → ℕ → ℕ → ℕ → ℕ → Option Refusal × ℕ × ℕ
answered x year month day tenth =
    let r : Ticked = answer_at x (input_at year month day tenth) 1 in
    (r.refusal, r.decision.day, r.decision.entry)

-- Fridays from 06:00 on; and the same where 14 January is a holiday.
abbrev pub fridays : Site
fridays = site_of ((32, 360) ∷ []) []

abbrev pub fridays_but14 : Site
fridays_but14 = site_of ((32, 360) ∷ []) (1 ∷ 1 ∷ 14 ∷ 0 ∷ 0 ∷ [])

-- Each day from 06:00 on its own entry, from Sunday's, 1, to Saturday's, 7, and that of holidays, 8.
abbrev pub every_day : List Start
every_day = (1, 360) ∷ (2, 360) ∷ (4, 360) ∷ (8, 360) ∷ (16, 360) ∷ (32, 360) ∷ (64, 360) ∷ (128, 360) ∷ []

-- The same; Thanksgiving and 28 February are holidays.
abbrev pub each_day : Site
each_day = site_of every_day (2 ∷ 11 ∷ 4 ∷ 4 ∷ 0 ∷ 1 ∷ 2 ∷ 28 ∷ 0 ∷ 0 ∷ [])

-- Mondays at 06:00, and two entries at 19:30.
abbrev pub mondays : Site
mondays = site_of ((2, 360) ∷ (2, 1170) ∷ (2, 1170) ∷ []) []

pub record PastMidnight : Type 0 where
  -- "Never before 1 January 2000": 31 December 1999 was a Friday, and up to 06:00 of the 7th no entry is in force;
  pub first_day : answered fridays 2000 1 1 0 ≡ (None, 6, 0)
  pub first_thursday : answered fridays 2000 1 6 863999 ≡ (None, 4, 0)
  pub before_six : answered fridays 2000 1 7 215999 ≡ (None, 5, 0)
  -- from then on the first Friday's is, to the next Friday before 06:00.
  pub at_six : answered fridays 2000 1 7 216000 ≡ (None, 5, 1)
  pub next_thursday : answered fridays 2000 1 13 863999 ≡ (None, 4, 1)
  pub next_friday : answered fridays 2000 1 14 215999 ≡ (None, 5, 1)
  -- "Seven days at most": where that day is a holiday, to its end.
  pub seven_days : answered fridays_but14 2000 1 14 863999 ≡ (None, 7, 1)
  pub eight_days : answered fridays_but14 2000 1 15 0 ≡ (None, 6, 0)
  -- "Yesterday's day type": Thanksgiving is no Thursday, 29 February 2004 is a Sunday, 28 February 2005 a holiday.
  pub after_thanksgiving : answered each_day 2025 11 28 0 ≡ (None, 5, 8)
  pub after_29_february : answered each_day 2004 3 1 0 ≡ (None, 1, 1)
  pub after_28_february : answered each_day 2005 3 1 0 ≡ (None, 2, 8)
  -- "The latest start there, equal starts as before": on Tuesday at midnight, and on Monday at 05:59, the second of the two.
  pub after_monday : answered mondays 2025 1 7 0 ≡ (None, 2, 3)
  pub on_monday : answered mondays 2025 1 13 215999 ≡ (None, 1, 3)
