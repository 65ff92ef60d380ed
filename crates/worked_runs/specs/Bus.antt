-- Document 02, A4: runs of a bus. The priority lane is lane 1, of two or alone, with no timeout; every timing is at its least but the
-- greens and the minimum red. `just_in_time`, `just_in_time_alone` and `as_the_tick_begins`, and of fractional offset
-- `just_in_time_with_offset` and `as_the_tick_begins_with_offset`, show it all.
use Rattle.std.specs.Prelude.{ℕ, ◌≡◌, Bool, true, false, not, ◌&&◌, List, [], ◌∷◌, ◌++◌, eqb}
use Rattle.site.specs.declared.Site.{Site}
use Rattle.site.specs.Named.{timings_of}
use Rattle.group.specs.Intervals.{from_metering}
use Rattle.waiting.specs.Bound.{waiting_bound}
use Rattle.serving.specs.Serving.{serving_ticks}
use Rattle.tick.specs.declared.Input.{Input}
use Rattle.tick.specs.Course.{Call, Course, at_power_up, answer_to, course_after}
use Rattle.tick.specs.Waiting.{begins_within}
use Rattle.tick.specs.Serving.{begins_bypass, served_within}
use Rattle.worked_runs.specs.SiteA.{timed}
use Rattle.worked_runs.specs.Run.{metering_under, metering_at, is_waiting_but, throughout, waits_throughout, calls}

-- So many lanes, in a service mode, with greens of this length and this minimum red.
abbrev pub lane_site : ℕ → ℕ → ℕ → ℕ → Site
lane_site lanes mode green minred = timed (lanes ∷ mode ∷ 1 ∷ green ∷ green ∷ 10 ∷ minred ∷ 10 ∷ 10 ∷ 10 ∷ 10 ∷ 10 ∷ 1 ∷ 1 ∷ 1 ∷ 1 ∷ 0 ∷ [])

abbrev pub bus_site : ℕ → ℕ → ℕ → Site
bus_site = lane_site 2

-- The demands of lanes 1 and 2, metering at 1800, without a bus and with its call on.
abbrev pub demanding : ℕ → ℕ → Input
demanding one two = metering_at 1800 (one ∷ two ∷ 0 ∷ 0 ∷ [])

abbrev pub with_bus : ℕ → ℕ → Input
with_bus one two = metering_under (record { preemption = 0; bypass = 1 }) 1800 (one ∷ two ∷ 0 ∷ 0 ∷ [])

-- Lane 2 alone in demand, up to its release at tick 102.
abbrev pub other_released : Site → Course
other_released x = course_after (at_power_up x) (calls x (demanding 0 1) 102)

-- Lane 1 alone in demand, released at tick 132, up to tick 142, at which it turns yellow.
abbrev pub just_yellow : Site → Course
just_yellow x = course_after (at_power_up x) (calls x (demanding 1 0) 142)

abbrev pub alone_yellow : Site → Course
alone_yellow x = course_after (at_power_up x) (calls x (demanding 1 0) 132)

-- The words of `Calling`, as a test, at a site without a timeout.
unfoldable pub is_calling : Course → Call → Bool
is_calling c call =
    eqb call.input.calls.bypass 1 && (eqb call.input.calls.preemption 0 && eqb (from_metering (answer_to c call).decision.wish) 7)

-- A bus that calls from the very next tick finds its lane green at the last tick of the number, and at none before: where the minimum green
-- is the longer, behind a release of the other lane; where the minimum red is, behind the priority lane's own green. In this mode:
pub record JustInTime (mode : ℕ) : Type 0 where
  pub long_green : serving_ticks (timings_of (bus_site mode 30 10)) ≡ 40
  pub begins_behind_the_other : begins_bypass (other_released (bus_site mode 30 10)) (record { site = bus_site mode 30 10; input = with_bus 0 1 }) ≡ true
  pub calling_behind_the_other : throughout is_calling (other_released (bus_site mode 30 10)) (calls (bus_site mode 30 10) (with_bus 0 1) 40) ≡ true
  pub other_in_time : served_within (bus_site mode 30 10) 40 (other_released (bus_site mode 30 10)) (calls (bus_site mode 30 10) (with_bus 0 1) 40) ≡ true
  pub other_no_tick_to_spare : served_within (bus_site mode 30 10) 39 (other_released (bus_site mode 30 10)) (calls (bus_site mode 30 10) (with_bus 0 1) 40) ≡ false
  pub long_red : serving_ticks (timings_of (bus_site mode 10 40)) ≡ 50
  pub begins_behind_its_own : begins_bypass (just_yellow (bus_site mode 10 40)) (record { site = bus_site mode 10 40; input = with_bus 0 0 }) ≡ true
  pub calling_behind_its_own : throughout is_calling (just_yellow (bus_site mode 10 40)) (calls (bus_site mode 10 40) (with_bus 0 0) 50) ≡ true
  pub own_in_time : served_within (bus_site mode 10 40) 50 (just_yellow (bus_site mode 10 40)) (calls (bus_site mode 10 40) (with_bus 0 0) 50) ≡ true
  pub own_no_tick_to_spare : served_within (bus_site mode 10 40) 49 (just_yellow (bus_site mode 10 40)) (calls (bus_site mode 10 40) (with_bus 0 0) 50) ≡ false

-- The same of a ramp of one lane, which has no other's green to wait for: released at tick 102, it turns yellow at tick 132.
pub record JustInTimeAlone : Type 0 where
  pub alone : serving_ticks (timings_of (lane_site 1 0 30 10)) ≡ 20
  pub alone_in_time : served_within (lane_site 1 0 30 10) 20 (alone_yellow (lane_site 1 0 30 10)) (calls (lane_site 1 0 30 10) (with_bus 0 0) 20) ≡ true
  pub alone_no_tick_to_spare : served_within (lane_site 1 0 30 10) 19 (alone_yellow (lane_site 1 0 30 10)) (calls (lane_site 1 0 30 10) (with_bus 0 0) 20) ≡ false

-- Lane 2, released last, stays in demand for the bound's 40 ticks; lane 1's demand comes at the 30th, and it is released; a bus calls at
-- the 40th and finds it green.
abbrev pub held_at_the_end : Site → List Call
held_at_the_end x = calls x (demanding 0 1) 29 ++ (calls x (demanding 1 1) 10 ++ calls x (with_bus 1 1) 1)

-- Lane i waits, as the tick begins no bypass being kept.
unfoldable pub waits_as_it_begins : ℕ → ℕ → Course → Call → Bool
waits_as_it_begins i most c call = not c.state.group.bypass.kept && is_waiting_but i most c call

-- In this mode, over these ticks:
pub record BusAtTheEnd (mode : ℕ) : Type 0 where
  pub bound : waiting_bound (timings_of (bus_site mode 10 10)) 20 ≡ 40
  -- as each tick begins no bypass is kept, and lane 2 is not released: so judged the waiting bound would be false;
  pub waits_as_it_begins_lem : throughout (waits_as_it_begins 2 20) (other_released (bus_site mode 10 10)) (held_at_the_end (bus_site mode 10 10)) ≡ true
  pub passed_over : begins_within 2 40 (other_released (bus_site mode 10 10)) (held_at_the_end (bus_site mode 10 10)) ≡ false
  -- with the ticks done one is, and the bound says nothing.
  pub waits_not : waits_throughout 2 20 (other_released (bus_site mode 10 10)) (held_at_the_end (bus_site mode 10 10)) ≡ false
