-- Document 02, A4, for the bus operator: what comes of a list of ticks with a bus's call on.
use Rattle.std.specs.Prelude.{ℕ, ◌≤◌, ◌≡◌, Bool, true, false, not, ◌&&◌, List, ◌∷◌, ◌++◌, eqb, get_or}
use Rattle.runs.specs.Runs.{happens_within}
use Rattle.site.specs.declared.Site.{Site}
use Rattle.site.specs.Record.{spoilt_site}
use Rattle.site.specs.Named.{timings_of}
use Rattle.wanted.specs.declared.wish.Wish.TheVariants.{Metering}
use Rattle.bypass.specs.declared.Doing.{Doing}
use Rattle.bypass.specs.declared.Doing.TheVariants.{None, Waits, Runs}
use Rattle.bypass.specs.Bypass.{later_of, is_time_up}
use Rattle.bypass.specs.Lanes.{place_of, doing_of}
use Rattle.serving.specs.Serving.{serving_ticks}
use Rattle.tick.specs.Course.{Call, Course, at_power_up, answer_to, is_accepted, onward, course_after, AtAccepted, accepted_ticks}

-- A tick begins a bypass: it is accepted, none was kept before it, and one is, the tick done.
unfoldable pub begins_bypass : Course → Call → Bool
begins_bypass c call = is_accepted c call && (not c.state.group.bypass.kept && (answer_to c call).state.group.bypass.kept)

-- At a tick the call is on, the wish is metering, there is no preemption, and the timeout has not come.
pub record Calling (x : Site) (c : Course) (call : Call) : Type 0 where
  pub on : call.input.calls.bypass ≡ 1
  pub rate : ℕ
  pub metering : (answer_to c call).decision.wish ≡ Metering rate
  pub preemption : call.input.calls.preemption ≡ 0
  pub timeout : is_time_up (timings_of x).timeout (later_of c.state.group.bypass.timer) ≡ false

abbrev pub is_running : Doing → Bool
is_running None = false
is_running Waits = false
is_running Runs = true

-- The tick's answer says that the bypass runs, and its indications show the priority lane green.
unfoldable pub is_served : Site → Course → Call → Bool
is_served x c call = is_running (answer_to c call).bypass && eqb (get_or (answer_to c call).shown.colours (place_of (timings_of x)) 0) 3

-- It is so at one of the first k accepted ticks of a list.
abbrev pub served_within : Site → ℕ → Course → List Call → Bool
served_within x = happens_within onward is_accepted (is_served x)

-- Take every list of ticks, refused ones included, from an accepted power-up, each accepted one at the power-up's site; in it every tick
-- that begins a bypass, and every part `run` behind it at whose accepted ticks the bus calls so. The priority lane is green under the
-- bypass at one of the first accepted ticks, the one that begins it included, as many as the bound, if there are so many.
unfoldable pub BusServed : Site → Type 0
BusServed x =
    spoilt_site x ≡ false
    → (before : List Call) (first : Call) (run : List Call)
    → AtAccepted (λ c call. call.site ≡ x) (at_power_up x) (before ++ (first ∷ run))
    → begins_bypass (course_after (at_power_up x) before) first ≡ true
    → AtAccepted (Calling x) (onward (course_after (at_power_up x) before) first) run
    → serving_ticks (timings_of x) ≤ accepted_ticks (course_after (at_power_up x) before) (first ∷ run)
    → served_within x (serving_ticks (timings_of x)) (course_after (at_power_up x) before) (first ∷ run) ≡ true

-- No vehicle passes the priority lane at a tick either: none of the four ends comes.
pub record NoEnd (x : Site) (c : Course) (call : Call) : Type 0 where
  pub calling : Calling x c call
  pub passage : get_or call.input.lanes.passage (place_of (timings_of x)) 0 ≡ 0

-- The bypass runs, by the rules,
abbrev pub RunsOn : Site → Course → Type 0
RunsOn x c = doing_of (timings_of x) c.state.group.bypass c.state.group.lanes ≡ Runs

-- and its lane is green in the indications of the last accepted tick.
pub record Running (x : Site) (c : Course) : Type 0 where
  pub runs : RunsOn x c
  pub green : get_or c.shown.colours (place_of (timings_of x)) 0 ≡ 3

-- "It stays green whatever its passage count and beyond the maximum": over every part `run` of such a list, where the bypass runs before it
-- and no end comes at its accepted ticks, it still runs, its lane green, when `run` is over.
unfoldable pub BusHeld : Site → Type 0
BusHeld x =
    spoilt_site x ≡ false
    → (before run : List Call)
    → AtAccepted (λ c call. call.site ≡ x) (at_power_up x) (before ++ run)
    → RunsOn x (course_after (at_power_up x) before)
    → AtAccepted (NoEnd x) (course_after (at_power_up x) before) run
    → Running x (course_after (course_after (at_power_up x) before) run)
