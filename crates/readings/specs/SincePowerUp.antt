-- Document 02, A8, in its own words, over every list of ticks since power-up, refused ones included: which reading a lane has, and its two
-- speeds. The periods are taken from the samples of the accepted ticks; nothing here goes by what a state keeps. Lanes are counted from 0.
use Rattle.std.specs.Prelude.{ℕ, ◌+◌, ◌≤◌, ◌<◌, max, ◌≡◌, cond, false, List, [], ◌∷◌, ◌++◌, eqb, length, Float, Option, Some, None}
use Rattle.refusals.specs.declared.Refusal.{Refusal}
use Rattle.refusals.specs.declared.Refusal.TheVariants.{NoPeriod}
use Rattle.site.specs.declared.Site.{Site}
use Rattle.site.specs.Record.{spoilt_site}
use Rattle.site.specs.Named.{mainline_lanes}
use Rattle.inputs.specs.Samples.{lane_sample_of, travel_time}
use Rattle.speed.specs.Speed.{speed_of}
use Rattle.lane_speeds.specs.declared.Speeds.{Speeds}
use Rattle.lane_speeds.specs.Speeds.{no_speeds}
use Rattle.lane_speeds.specs.declared.reading.Reading.{Reading}
use Rattle.lane_speeds.specs.declared.reading.Reading.TheVariants.{Absent, Measured, Carried}
use Rattle.state.specs.declared.State.{State}
use Rattle.tick.specs.Course.{Call, Course, at_power_up, is_accepted, onward, course_after, AtAccepted}
use Rattle.readings.specs.declared.LaneReading.{LaneReading}
use Rattle.readings.specs.declared.Readings.{Readings}
use Rattle.readings.specs.Readings.{no_reading, lane_in}

-- A lane's travel times, one for each accepted tick, 0 where no vehicle was timed: those of the open period, and those of each completed
-- one. The newest comes first.
pub record Times : Type 0 where
  pub current : List ℕ
  pub completed : List (List ℕ)

abbrev pub no_times : Times
no_times = record { current = []; completed = [] }

-- One accepted tick more. "A period is 300 accepted ticks from power-up, the 300th included."
unfoldable pub with_tick : Times → ℕ → Times
with_tick h time =
    cond (eqb (length h.current) 299)
    (record { current = []; completed = (time ∷ h.current) ∷ h.completed })
    (record { current = time ∷ h.current; completed = h.completed })

-- Lane j's at a tick.
abbrev pub time_of : ℕ → Call → ℕ
time_of j call = travel_time (lane_sample_of call.input.main j)

-- Lane j's after a list of ticks.
abbrev pub times_after : ℕ → Course → Times → List Call → Times
times_after j c h [] = h
times_after j c h (call ∷ calls) = times_after j (onward c call) (cond (is_accepted c call) (with_tick h (time_of j call)) h) calls

-- The vehicles timed in a period, their total milliseconds, and the longest time.
abbrev pub vehicles_in : List ℕ → ℕ
vehicles_in [] = 0
vehicles_in (time ∷ times) = cond (eqb time 0) 0 1 + vehicles_in times

abbrev pub millis_in : List ℕ → ℕ
millis_in [] = 0
millis_in (time ∷ times) = time + millis_in times

abbrev pub longest : List ℕ → ℕ
longest [] = 0
longest (time ∷ times) = max time (longest times)

-- "By the same quotient over that lane alone."
abbrev pub speed_over : List ℕ → Float
speed_over times = speed_of (vehicles_in times) (millis_in times)

-- None of these periods timed a vehicle.
abbrev pub NoneTimed : List (List ℕ) → Type 0
NoneTimed [] = Unit {0}
NoneTimed (times ∷ periods) = (vehicles_in times ≡ 0) × NoneTimed periods

-- A lane's reading, by its completed periods.
pub record Reads (periods : List (List ℕ)) (r : Reading) : Type 0 where
  -- "It is measured .. if the period timed a vehicle there,"
  pub measured : (times : List ℕ) (before : List (List ℕ)) → periods ≡ times ∷ before → 1 ≤ vehicles_in times → r ≡ Measured (speed_over times)
  -- "carried over if only an earlier one did", "with the last measured speed": that of the latest period that timed a vehicle there.
  pub carried : (none : List (List ℕ)) (times : List ℕ) (before : List (List ℕ)) → periods ≡ none ++ (times ∷ before) → 1 ≤ length none
      → NoneTimed none → 1 ≤ vehicles_in times → r ≡ Carried (speed_over times)
  -- Absent if no period did.
  pub absent : NoneTimed periods → r ≡ Absent

-- A lane's two speeds of a period.
pub record Speaks (times : List ℕ) (s : Speeds) : Type 0 where
  -- "Both 0 until a vehicle is timed."
  pub none : vehicles_in times ≡ 0 → s ≡ no_speeds
  -- The latest is that of the vehicle timed last.
  pub latest : (later : List ℕ) (time : ℕ) (before : List ℕ) → times ≡ later ++ (time ∷ before) → vehicles_in later ≡ 0 → 1 ≤ time
      → s.latest ≡ speed_of 1 time
  -- The slowest is that of the longest time.
  pub slowest : 1 ≤ vehicles_in times → s.slowest ≡ speed_of 1 (longest times)

-- What the answer says of a lane, and the refusal: 12 exactly if no period has been completed; then the lane is absent, and its speeds 0.
pub record Spoken (periods : List (List ℕ)) (refusal : Option Refusal) (l : LaneReading) : Type 0 where
  pub no_period : periods ≡ [] → (refusal ≡ Some NoPeriod) × (l ≡ no_reading)
  pub period : 1 ≤ length periods → refusal ≡ None
  pub reads : Reads periods l.reading
  pub speaks : (times : List ℕ) (before : List (List ℕ)) → periods ≡ times ∷ before → Speaks times l.speeds

-- Take every list of ticks, refused ones included, from an accepted power-up, each accepted one at the power-up's site, that has left this
-- state; and each of the site's mainline lanes.
unfoldable pub SincePowerUp : Site → State → Readings → Type 0
SincePowerUp x s r =
    spoilt_site x ≡ false
    → (ticks : List Call)
    → AtAccepted (λ c call. call.site ≡ x) (at_power_up x) ticks
    → s ≡ (course_after (at_power_up x) ticks).state
    → (j : ℕ) → j < mainline_lanes x
    → Spoken (times_after j (at_power_up x) no_times ticks).completed r.refusal (lane_in r j)
