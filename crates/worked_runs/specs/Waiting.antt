-- Demand 3, the waiting bound, in the words of its claim: on site A's runs, and on runs that meet it with no tick to spare. One proof,
-- `waiting_runs`, shows it all.
use Rattle.std.specs.Prelude.{◌≡◌, true, false}
use Rattle.site.specs.Named.{timings_of}
use Rattle.waiting.specs.Bound.{waiting_bound}
use Rattle.tick.specs.Course.{at_power_up, course_after, accepted_ticks}
use Rattle.tick.specs.Waiting.{begins_within}
use Rattle.worked_runs.specs.SiteA.{site_with, least_site, site_a, site_a_with_offset}
use Rattle.worked_runs.specs.Run.{metering600, waits_throughout, calls}
use Rattle.worked_runs.specs.TwoLanes.{released_last, then_both}

pub record WaitingRuns : Type 0 where
  -- Lane 2 of site A waits from tick 291 on, no cycle exceeds 60, and its green begins at the 41st tick of the run, well before the 80th.
  pub bound_at_60 : waiting_bound (timings_of site_a) 60 ≡ 80
  pub bound_with_offset : waiting_bound (timings_of site_a_with_offset) 60 ≡ 90
  pub before_metering : accepted_ticks (at_power_up site_a) (calls site_a metering600 290) ≡ 290
  pub begins_at_41 : begins_within 2 41 (course_after (at_power_up site_a) (calls site_a metering600 290)) (calls site_a metering600 80) ≡ true
  pub not_at_40 : begins_within 2 40 (course_after (at_power_up site_a) (calls site_a metering600 290)) (calls site_a metering600 80) ≡ false
  -- And the number is exact: with one lane, released at 311 and 371, a run from tick 312 on meets the bound with no tick to spare.
  pub one_waiting : waits_throughout 1 60 (course_after (at_power_up (site_with 1 0)) (calls (site_with 1 0) metering600 311)) (calls (site_with 1 0) metering600 60) ≡ true
  pub bound_of_one_lane : waiting_bound (timings_of (site_with 1 0)) 60 ≡ 60
  pub in_time : begins_within 1 60 (course_after (at_power_up (site_with 1 0)) (calls (site_with 1 0) metering600 311)) (calls (site_with 1 0) metering600 60) ≡ true
  pub no_tick_to_spare : begins_within 1 59 (course_after (at_power_up (site_with 1 0)) (calls (site_with 1 0) metering600 311)) (calls (site_with 1 0) metering600 60) ≡ false
  -- So is the turn of the other lane, in both service modes: at 879, a cycle of 41, lane 2, released at tick 102 and waiting ever since, is
  -- ready at 143; there lane 1's demand comes, whose turn is first. Lane 2 is released at 153, when lane 1's green has ended, or at 164,
  -- half a cycle rounded up after it: the run's 51st tick, or its 62nd, and the bound's last.
  pub two_waiting : waits_throughout 2 41 (released_last 879 0) (then_both 879 0 40 22) ≡ true
  pub bound_of_two_lanes : waiting_bound (timings_of (least_site 0)) 41 ≡ 51
  pub two_in_time : begins_within 2 51 (released_last 879 0) (then_both 879 0 40 22) ≡ true
  pub two_no_tick_to_spare : begins_within 2 50 (released_last 879 0) (then_both 879 0 40 22) ≡ false
  pub two_waiting_with_offset : waits_throughout 2 41 (released_last 879 1) (then_both 879 1 40 22) ≡ true
  pub bound_of_two_with_offset : waiting_bound (timings_of (least_site 1)) 41 ≡ 62
  pub two_with_offset_in_time : begins_within 2 62 (released_last 879 1) (then_both 879 1 40 22) ≡ true
  pub two_with_offset_no_tick_to_spare : begins_within 2 61 (released_last 879 1) (then_both 879 1 40 22) ≡ false
