-- The good lanes of counts in range have timed vehicles in range: their speed is near the exact one, and a test of it is one of whole
-- numbers, so that the levels decide as whole numbers do.
use Prim.Native.Nat.{ℕ, zero, suc, ◌*◌, ◌≤◌}
use mathlib.Core.Path.{◌≡◌, refl, sym, subst}
use mathlib.Core.Bool.{Bool, true, false, not, ◌&&◌}
use native.Mathlib.Omega.{arith}
use borrow.Author.Tests.{lt-ltb, ltb-true}
use lib.Dec.{ltb, eqb}
use Rattle.loops.proofs.Cases.{by_test}
use lib.Ieee.{Float}
use Rattle.std.specs.Prelude.{Option}
use Rattle.ranges.specs.Ranges.{unused}
use Rattle.speed.specs.Speed.{speed_of, Timed, SpeedNear, TestsExactly, at_most}
use Rattle.speed.proofs.SpeedLaws.{speed_near, speed_tests}
use Rattle.period.specs.declared.Counts.{Counts}
use Rattle.period.specs.declared.LaneCounts.{LaneCounts}
use Rattle.period.specs.Counts.{lane_of, good_of}
use Rattle.period.specs.Range.{counts_spoilt}
use Rattle.period.proofs.RangeLaws.{CountsGood, counts_good, most_most}
use Rattle.levels.specs.declared.measure.Measures.{Measures}
use Rattle.levels.specs.declared.Level.{Level}
use Rattle.levels.specs.Measures.{over_good, totals_of, speed_over, measures_of, measured_of, OfSpeed}
use Rattle.levels.specs.Levels.{is_slow, is_met, decides}
use Rattle.levels.specs.ByCounts.{slow_by_counts, met_by_counts, decides_by_counts}

never : (a : Bool) → false ≡ (a && false)
never true = refl
never false = refl

module _ (c : Counts) (n m ticks : ℕ) (few : ticks ≤ 300) (lanes : m ≤ 6) (good : CountsGood c n m ticks) where
  abbrev timed : LaneCounts → ℕ
  timed l = l.timed

  abbrev millis : LaneCounts → ℕ
  millis l = l.millis

  record Within (k : ℕ) : Type 0 where
    few_timed : over_good c timed k ≤ 300 * k
    least : over_good c timed k ≤ over_good c millis k
    most : over_good c millis k ≤ 65535 * over_good c timed k

  within : (k : ℕ) → k ≤ 6 → Within k
  within zero h = record { few_timed = omega arith; least = omega arith; most = omega arith }
  within (suc k) h =
      let w = within k (omega arith) in
      let g = good.lanes k (omega arith) in
      let t : (lane_of c k).timed ≤ 300 = omega (arith, g.timed, g.vehicles, most_most k m ticks _ refl) in
      by_test (good_of (lane_of c k))
      (λ q. record {
        few_timed = rw q (omega (arith, w.few_timed, t));
        least = rw q (omega (arith, w.least, g.each));
        most = rw q (omega (arith, w.most, g.millis));
      })
      (λ q. record {
        few_timed = rw q (omega (arith, w.few_timed));
        least = rw q (omega (arith, w.least));
        most = rw q (omega (arith, w.most));
      })

  totals_timed : ltb 0 (totals_of c m).timed ≡ true → Timed (totals_of c m).timed (totals_of c m).millis
  unfolding totals_of
  totals_timed q =
      let w = within m lanes in
      record {
        some = omega (arith, ltb-true 0 (over_good c timed m) q);
        few = omega (arith, w.few_timed);
        least = w.least;
        most = w.most;
      }

  -- What holds of the speed where a vehicle was timed holds of what was measured.
  of_speed : (P : Float → ℕ → ℕ → Type 0) → ((v ms : ℕ) → Timed v ms → P (speed_of v ms) v ms) → OfSpeed P (totals_of c m) (measured_of c m)
  unfolding measured_of measures_of speed_over
  of_speed P law =
      by_test (eqb (totals_of c m).lanes 0) (λ q. rw q tt)
      (λ q. rw q (λ some. let k = lt-ltb 0 (totals_of c m).timed some in rw k (law (totals_of c m).timed (totals_of c m).millis (totals_timed k))))

  pub near : OfSpeed SpeedNear (totals_of c m) (measured_of c m)
  near = of_speed SpeedNear speed_near

  pub exact : OfSpeed TestsExactly (totals_of c m) (measured_of c m)
  exact = of_speed TestsExactly speed_tests

  -- A level's test of the speed is one of whole numbers.
  slow_by_counts_lem : (threshold : ℕ) → is_slow threshold (measures_of (totals_of c m)).speed ≡ slow_by_counts threshold (totals_of c m)
  unfolding is_slow slow_by_counts measures_of speed_over at_most TestsExactly
  slow_by_counts_lem threshold =
      by_test (ltb 0 (totals_of c m).timed)
      (λ k. rw (k, speed_tests (totals_of c m).timed (totals_of c m).millis (totals_timed k) threshold))
      (λ k. rw k (never (not (eqb threshold unused))))

  pub by_counts : (l : Level) (table : ℕ) → decides l table (measures_of (totals_of c m)) ≡ decides_by_counts l table (totals_of c m)
  unfolding decides is_met decides_by_counts met_by_counts measures_of
  by_counts l table = rw (slow_by_counts_lem l.speed)

-- What the call promises of its answer.
abbrev Promised : Counts → ℕ → Option Measures → (Float → ℕ → ℕ → Type 0) → Type 0
Promised c m r holds = (n ticks : ℕ) → ticks ≤ 300 → m ≤ 6 → counts_spoilt c n m ticks ≡ false → OfSpeed holds (totals_of c m) r

pub with_exact : (c : Counts) (m : ℕ) (r : Option Measures) → r ≡ measured_of c m
    → (r ≡ measured_of c m) × (Promised c m r SpeedNear × Promised c m r TestsExactly)
with_exact c m r is = (
  is,
  (
    (λ n ticks few lanes e. subst (OfSpeed SpeedNear (totals_of c m)) (sym is) (near c n m ticks few lanes (counts_good c n m ticks e))),
    (λ n ticks few lanes e. subst (OfSpeed TestsExactly (totals_of c m)) (sym is) (exact c n m ticks few lanes (counts_good c n m ticks e))),
  ),
)
