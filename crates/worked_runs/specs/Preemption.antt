-- Document 02, A1: the number of ticks that the fire service waits at the most is exact at a site where the startup is the longer way, and
-- at one where the closing is. One proof, `no_tick_to_spare`, shows both.
use Rattle.std.specs.Prelude.{◌≡◌, true, false, [], ◌∷◌}
use Rattle.site.specs.Named.{timings_of}
use Rattle.lanes.specs.Lanes.{lanes_entered}
use Rattle.bypass.specs.Range.{no_bypass}
use Rattle.preemption.specs.Clearing.{clearing_ticks}
use Rattle.tick.specs.Course.{Course, at_power_up, course_after}
use Rattle.tick.specs.Preemption.{clears_within}
use Rattle.worked_runs.specs.SiteA.{least_site, slow_site}
use Rattle.worked_runs.specs.Run.{metering600, called600, releases, calls}

-- The startup warning has just begun, at tick 52.
abbrev pub warned : Course
warned = course_after (at_power_up (least_site 0)) (calls (least_site 0) metering600 52)

-- A lane has just been released, at tick 102.
abbrev pub just_released : Course
just_released = course_after (at_power_up slow_site) (calls slow_site metering600 102)

-- A call that begins at the very next tick finds pre-metering dark or green at the last tick of the number, and at none before.
pub record NoTickToSpare : Type 0 where
  pub warning_at_52 : warned.state.group ≡ record { interval = 3; age = 0; lanes = lanes_entered 2; bypass = no_bypass }
  pub clearing_at_least : clearing_ticks (timings_of (least_site 0)) ≡ 52
  pub startup_in_time : clears_within 52 warned (calls (least_site 0) called600 52) ≡ true
  pub startup_no_tick_to_spare : clears_within 51 warned (calls (least_site 0) called600 52) ≡ false
  pub released_at_102 : releases slow_site metering600 102 ≡ (102, 1) ∷ []
  pub clearing_of_slow_site : clearing_ticks (timings_of slow_site) ≡ 171
  pub closing_in_time : clears_within 171 just_released (calls slow_site called600 171) ≡ true
  pub closing_no_tick_to_spare : clears_within 170 just_released (calls slow_site called600 171) ≡ false
