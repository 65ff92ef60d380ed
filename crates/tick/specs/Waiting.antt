-- Demand 3: "A waiting metered lane is never passed over for long." One claim about the whole list of ticks since power-up.
use Rattle.std.specs.Prelude.{ℕ, ◌-◌, ◌≤◌, ◌≡◌, Bool, true, false, ◌&&◌, List, ◌++◌, eqb, get_or}
use Rattle.runs.specs.Runs.{happens_within}
use Rattle.site.specs.declared.Site.{Site}
use Rattle.site.specs.Record.{spoilt_site}
use Rattle.site.specs.Named.{timings_of, metered_lanes}
use Rattle.waiting.specs.Bound.{waiting_bound}
use Rattle.tick.specs.Course.{Call, Course, at_power_up, answer_to, is_accepted, onward, course_after, AtAccepted, accepted_ticks}

-- Lane i, from 1, waits at a tick: "the lane's demand is on, the group, the tick done, is in metering, and no cycle in force exceeds C".
-- "The waiting bound covers ticks without preemption" (document 02, A1), and while a bypass waits or runs it "says nothing" (A4): none is
-- kept, the tick done.
pub record Waits (i most : ℕ) (c : Course) (call : Call) : Type 0 where
  pub preemption : call.input.calls.preemption ≡ 0
  pub bypass : (answer_to c call).state.group.bypass.kept ≡ false
  pub demand : get_or call.input.lanes.demand (i - 1) 0 ≡ 1
  pub metering : (answer_to c call).state.group.interval ≡ 7
  pub cycle : (answer_to c call).cycle ≤ most

-- A metering green of lane i begins at this tick: the tick releases the lane, the indications returned show it green, and those of the
-- accepted tick before show it red.
unfoldable pub green_begins : ℕ → Course → Call → Bool
green_begins i c call =
    eqb (answer_to c call).released i
    && (eqb (get_or (answer_to c call).shown.colours (i - 1) 0) 3 && eqb (get_or c.shown.colours (i - 1) 0) 1)

-- It begins at one of the first k accepted ticks of a list.
abbrev pub begins_within : ℕ → ℕ → Course → List Call → Bool
begins_within i = happens_within onward is_accepted (green_begins i)

-- "Take every list of ticks, refused ones included, from an accepted power-up: .. each accepted one also the power-up's site .. Take every
-- lane, every whole number C and every run of consecutive accepted ticks in the list, refused ones between them not counted, that has at
-- least as many ticks as the bound and at each of which" the lane waits. "Then a metering green of that lane begins at one of the run's
-- first" ticks, as many as the bound.
unfoldable pub WaitingBound : Site → Type 0
WaitingBound x =
    spoilt_site x ≡ false
    → (before run : List Call)
    → AtAccepted (λ c call. call.site ≡ x) (at_power_up x) (before ++ run)
    → (i most : ℕ) → 1 ≤ i → i ≤ metered_lanes x
    → AtAccepted (Waits i most) (course_after (at_power_up x) before) run
    → waiting_bound (timings_of x) most ≤ accepted_ticks (course_after (at_power_up x) before) run
    → begins_within i (waiting_bound (timings_of x) most) (course_after (at_power_up x) before) run ≡ true
