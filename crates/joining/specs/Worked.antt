-- Document 02, A12, worked out: what is dropped and what stays, 14, 17 and exactly 16; and that the claim on the entry in force does not
-- hold of a refused pair.
use Rattle.std.specs.Prelude.{ℕ, zero, suc, ◌+◌, ◌≡◌, List, [], ◌∷◌, ◌++◌, Result, Ok, Err}
use Rattle.std.proofs.Math.Option.{none, some}
use Rattle.calendar.specs.declared.day.Date.{Date}
use Rattle.plan.specs.declared.Entry.{Entry}
use Rattle.joining.specs.declared.PlanList.{PlanList}
use Rattle.refusals.specs.declared.Refusal.{Refusal}
use Rattle.refusals.specs.declared.Refusal.TheVariants.{SpoiltSite, TooManyEntries}
use Rattle.joining.specs.Joining.{list_of, joined_of, list_given}
use Rattle.joining.specs.EndToEnd.{end_to_end, both_counts, in_force_at, SameInForce}

-- Days, start and rate of a fixed entry; and an entry that is dark.
abbrev pub fixed : ℕ → ℕ → ℕ → Entry
fixed days start rate = record { days = days; start = start; mode = 2; rate = rate; table = 0 }

abbrev dark : ℕ → ℕ → Entry
dark days start = record { days = days; start = start; mode = 0; rate = 0; table = 0 }

-- Monday to Friday, Saturday, Monday to Saturday, every day type, and all but Holiday.
abbrev weekdays : ℕ
weekdays = 62

abbrev saturday : ℕ
saturday = 64

abbrev workdays : ℕ
workdays = 126

abbrev pub always : ℕ
always = 255

abbrev ordinary : ℕ
ordinary = 127

abbrev given : List Entry → Result PlanList Refusal
given es = Ok (list_of es)

abbrev joined_from : List Entry → List Entry → Result PlanList Refusal
joined_from first second = joined_of (list_of first) (list_of second)

-- n entries, a minute apart.
abbrev minutes : ℕ → ℕ → List Entry
minutes zero start = []
minutes (suc n) start = fixed always start 600 ∷ minutes n (start + 1)

-- A count of 17, a sixteenth row behind a count of 15, and a start at minute 1440.
abbrev above : PlanList
above = record { rows = (list_of (minutes 16 0)).rows; count = 17 }

abbrev beyond : PlanList
beyond = record { rows = (list_of (minutes 16 0)).rows; count = 15 }

abbrev too_late : PlanList
too_late = list_of (fixed always 1440 600 ∷ [])

-- A pair that is refused with 17, and a Monday.
abbrev standing : PlanList
standing = list_of (minutes 15 0)

abbrev works : PlanList
works = list_of (minutes 2 100)

abbrev pub today : Date
today = record { year = 2024; month = 1; day = 1 }

pub record Worked : Type 0 where
  -- Wholly covered, by an entry with a day more: dropped, whatever its mode and rate.
  pub covered : joined_from (fixed weekdays 360 600 ∷ fixed always 1200 800 ∷ []) (dark workdays 360 ∷ []) ≡ given (fixed always 1200 800 ∷ dark workdays 360 ∷ [])
  -- Covered on some of its days only: kept, and so it is if Holiday alone is left, or if two entries cover it together.
  pub some_days : joined_from (fixed workdays 900 700 ∷ []) (fixed weekdays 900 300 ∷ []) ≡ given (fixed workdays 900 700 ∷ fixed weekdays 900 300 ∷ [])
  pub but_holiday : joined_from (fixed always 900 700 ∷ []) (fixed ordinary 900 300 ∷ []) ≡ given (fixed always 900 700 ∷ fixed ordinary 900 300 ∷ [])
  pub together : joined_from (fixed workdays 900 700 ∷ []) (fixed weekdays 900 300 ∷ fixed saturday 900 300 ∷ [])
      ≡ given (fixed workdays 900 700 ∷ fixed weekdays 900 300 ∷ fixed saturday 900 300 ∷ [])
  -- Another start: kept.
  pub other_start : joined_from (fixed weekdays 360 600 ∷ []) (fixed weekdays 361 300 ∷ []) ≡ given (fixed weekdays 360 600 ∷ fixed weekdays 361 300 ∷ [])
  -- Equal starts and equal days: each such entry of the first is dropped, and each of the second stays.
  pub equal : joined_from (fixed weekdays 360 600 ∷ fixed weekdays 360 700 ∷ []) (fixed weekdays 360 300 ∷ fixed weekdays 360 400 ∷ [])
      ≡ given (fixed weekdays 360 300 ∷ fixed weekdays 360 400 ∷ [])
  -- 15 and 2 are too many; 15 and 1 are 16; 16 and 1 are, if one is dropped.
  pub seventeen : joined_of standing works ≡ Err TooManyEntries
  pub sixteen : joined_from (minutes 15 0) (minutes 1 15) ≡ given (minutes 16 0)
  pub one_dropped : joined_from (minutes 16 0) (minutes 1 0) ≡ given (minutes 15 1 ++ minutes 1 0)
  -- Both full: the second remains where it covers the first; where it covers nothing, 32 are too many.
  pub both_full : joined_from (minutes 16 0) (minutes 16 0) ≡ given (minutes 16 0)
  pub thirty_two : joined_from (minutes 16 0) (minutes 16 16) ≡ Err TooManyEntries
  pub empty : joined_from [] [] ≡ given []
  -- 14, for either list, and before 17: 15 and 15 would remain.
  pub first_spoilt : joined_of above works ≡ Err SpoiltSite
  pub second_spoilt : joined_of (list_of (minutes 15 100)) beyond ≡ Err SpoiltSite
  pub number_spoilt : joined_of works too_late ≡ Err SpoiltSite
  -- The pair that is refused with 17 gives an empty list, and so no entry is in force; of the two laid end to end one is.
  pub refused_none : in_force_at (list_given (joined_of standing works)).rows (list_given (joined_of standing works)).count [] 0 today 600 ≡ none
  pub laid_some : in_force_at (end_to_end standing works) (both_counts standing works) [] 0 today 600 ≡ some (fixed always 101 600)
  pub not_of_refused : SameInForce standing works (list_given (joined_of standing works)) → ⊥
