-- Document 01, 'What is wanted': what a period's counts measure "over good lanes".
use Rattle.std.specs.Prelude.{ℕ, zero, suc, ◌+◌, ◌*◌, ◌/◌, ◌≤◌, cond, ltb, eqb, Float, Option, Some, None, IsSomeAnd}
use Rattle.speed.specs.Speed.{speed_of}
use Rattle.period.specs.declared.Counts.{Counts}
use Rattle.period.specs.declared.LaneCounts.{LaneCounts}
use Rattle.period.specs.Counts.{lane_of, good_of}
use Rattle.levels.specs.declared.measure.Totals.{Totals}
use Rattle.levels.specs.declared.measure.Measures.{Measures}

-- The sum over the good ones of the first m mainline lanes of what is asked of each.
abbrev pub over_good : Counts → (LaneCounts → ℕ) → ℕ → ℕ
over_good c f zero = 0
over_good c f (suc m) = over_good c f m + cond (good_of (lane_of c m)) (f (lane_of c m)) 0

-- Over the good ones of m mainline lanes: how many they are, and the sums of their counts.
unfoldable pub totals_of : Counts → ℕ → Totals
totals_of c m = record {
  lanes = over_good c (λ (l : LaneCounts). 1) m;
  vehicles = over_good c (λ (l : LaneCounts). l.vehicles) m;
  occupied = over_good c (λ (l : LaneCounts). l.occupied) m;
  timed = over_good c (λ (l : LaneCounts). l.timed) m;
  millis = over_good c (λ (l : LaneCounts). l.millis) m;
}

-- "Rounded down: flow = vehicles × 120 ÷ lanes; occupancy = occupied ms ÷ (30 × lanes)." Document 02, A8: "Levels use the speed over all
-- good lanes, no longer rounded down; a carried-over speed never enters it." Without a timed vehicle it is not known.
abbrev pub flow_over : Totals → ℕ
flow_over t = t.vehicles * 120 / t.lanes

abbrev pub occupancy_over : Totals → ℕ
occupancy_over t = t.occupied / (30 * t.lanes)

unfoldable pub speed_over : Totals → Option Float
speed_over t = cond (ltb 0 t.timed) (Some (speed_of t.timed t.millis)) None

unfoldable pub measures_of : Totals → Measures
measures_of t = record {
  flow = flow_over t;
  occupancy = occupancy_over t;
  speed = speed_over t;
}

-- What a period's counts measured on m mainline lanes, where there is a good lane.
unfoldable pub measured_of : Counts → ℕ → Option Measures
measured_of c m = cond (eqb (totals_of c m).lanes 0) None (Some (measures_of (totals_of c m)))

-- Where a vehicle was timed on a good lane, something holds of the speed, the vehicles timed and their milliseconds.
abbrev pub OfSpeed : (Float → ℕ → ℕ → Type 0) → Totals → Option Measures → Type 0
OfSpeed holds t None = Unit {0}
OfSpeed holds t (Some q) = 1 ≤ t.timed → IsSomeAnd q.speed (λ x. holds x t.timed t.millis)
