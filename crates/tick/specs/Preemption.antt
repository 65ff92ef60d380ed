-- Document 02, A1, for the fire service: what comes of a list of ticks with its call on, whatever else they bring.
use Rattle.std.specs.Prelude.{ℕ, ◌≤◌, ◌≡◌, Bool, true, false, List, ◌++◌}
use Rattle.runs.specs.Runs.{happens_within}
use Rattle.site.specs.declared.Site.{Site}
use Rattle.site.specs.Record.{spoilt_site}
use Rattle.site.specs.Named.{timings_of}
use Rattle.group.specs.Preemption.{is_pre_metering}
use Rattle.preemption.specs.Clearing.{clearing_ticks}
use Rattle.tick.specs.Course.{Call, Course, at_power_up, answer_to, is_accepted, onward, course_after, AtAccepted, accepted_ticks}

-- The call is on at a tick.
abbrev pub Called : Course → Call → Type 0
Called c call = call.input.calls.preemption ≡ 1

-- The group's interval, as a list of ticks has left it.
abbrev pub interval_after : Course → List Call → ℕ
interval_after c run = (course_after c run).state.group.interval

-- The group, the tick done, is in pre-metering dark or green.
unfoldable pub clears : Course → Call → Bool
clears c call = is_pre_metering (answer_to c call).state.group.interval

-- It is so at one of the first k accepted ticks of a list.
abbrev pub clears_within : ℕ → Course → List Call → Bool
clears_within = happens_within onward is_accepted clears

-- What a list of ticks comes to, where its accepted ones have the call on:
pub record Cleared (bound : ℕ) (c : Course) (run : List Call) : Type 0 where
  -- "A dark meter is held dark."
  pub dark : c.state.group.interval ≡ 1 → interval_after c run ≡ 1
  -- "A pre-metering green is held however old it is."
  pub green : c.state.group.interval ≡ 2 → interval_after c run ≡ 2
  -- From any interval the group is in one of the two at one of the first accepted ticks, as many as the bound, if there are so many;
  pub in_time : bound ≤ accepted_ticks c run → clears_within bound c run ≡ true
  -- and so it still is at the list's end.
  pub at_end : bound ≤ accepted_ticks c run → is_pre_metering (interval_after c run) ≡ true

-- Take every list of ticks, refused ones included, from an accepted power-up, each accepted one at the power-up's site, and every part
-- `run` at whose accepted ticks the call is on.
unfoldable pub PreemptionClears : Site → Type 0
PreemptionClears x =
    spoilt_site x ≡ false
    → (before run : List Call)
    → AtAccepted (λ c call. call.site ≡ x) (at_power_up x) (before ++ run)
    → AtAccepted Called (course_after (at_power_up x) before) run
    → Cleared (clearing_ticks (timings_of x)) (course_after (at_power_up x) before) run
