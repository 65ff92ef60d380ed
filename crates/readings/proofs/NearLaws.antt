-- The speed of a lane that is measured is near its exact value, since a state in range has timed vehicles in range.
use Prim.Native.Nat.{ℕ, ◌<◌}
use mathlib.Core.Path.{◌≡◌, refl}
use borrow.Author.Tests.{eqb-false}
use Rattle.std.specs.Prelude.{Option, Some, None}
use Rattle.refusals.specs.declared.Refusal.{Refusal}
use lib.Dec.{eqb}
use lib.Ieee.{eq}
use Rattle.loops.proofs.Cases.{by_test}
use Rattle.loops.proofs.EachLaws.{at_six}
use Rattle.site.specs.declared.Site.{Site}
use Rattle.site.specs.Named.{metered_lanes, mainline_lanes, shape_of}
use Rattle.speed.specs.Speed.{no_speed}
use Rattle.speed.proofs.SpeedLaws.{speed_near}
use Rattle.lane_speeds.specs.Speeds.{earlier_of}
use Rattle.lane_speeds.specs.Reading.{reading_of}
use Rattle.period.specs.declared.Periods.{Periods}
use Rattle.period.specs.Counts.{lane_of}
use Rattle.period.proofs.RangeLaws.{PeriodsGood, last_timed}
use Rattle.state.specs.declared.State.{State}
use Rattle.state.proofs.StateLaws.{state_good}
use Rattle.poll.specs.Poll.{refusal_of}
use Rattle.poll.proofs.PollLaws.{state_sound}
use Rattle.readings.specs.Readings.{no_reading, lane_reading_of, readings_of, refused_readings, readings_by, read_of, NearIf, MeasuredNear}

module _ (p : Periods) (n m : ℕ) (g : PeriodsGood p n m) where
  lane_near : (j : ℕ) → j < 6 → NearIf (lane_of p.last j).timed (lane_of p.last j).millis (lane_reading_of p j).reading
  unfolding lane_reading_of reading_of
  lane_near j h =
      by_test (eqb (lane_of p.last j).timed 0)
      (λ q. rw q (by_test (eq (earlier_of p.speeds j) no_speed) (λ z. rw z tt) (λ z. rw z tt)))
      (λ q. rw q (speed_near _ _ (last_timed p n m g j h (eqb-false (lane_of p.last j).timed 0 q)).1))

  all_near : MeasuredNear p.last (readings_of p)
  unfolding MeasuredNear readings_of
  all_near j h = rw (at_six (lane_reading_of p) no_reading j h) (lane_near j h)

none_near : (x : Site) (s : State) (refusal : Refusal) → MeasuredNear s.periods.last (refused_readings refusal)
unfolding MeasuredNear refused_readings
none_near x s refusal j h = rw (at_six (λ k. no_reading) no_reading j h) tt

pub near : (x : Site) (s : State) → MeasuredNear s.periods.last (read_of x s)
unfolding read_of readings_by
near x s = by (refusal_of x s) refl
  where
    by : (r : Option Refusal) → refusal_of x s ≡ r → MeasuredNear s.periods.last (readings_by r s.periods)
    by None e = all_near s.periods (metered_lanes x) (mainline_lanes x) (state_good s (shape_of x) (state_sound x s e)).periods
    by (Some refusal) e = none_near x s refusal
