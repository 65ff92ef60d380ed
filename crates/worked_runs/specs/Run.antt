-- A run: ticks from power-up at a site, all with one input.
use Rattle.std.specs.Prelude.{ℕ, zero, suc, ◌+◌, ◌-◌, Bool, true, cond, not, ◌&&◌, List, [], ◌∷◌, eqb, leb, get_or, replicate}
use Rattle.site.specs.declared.Site.{Site}
use Rattle.inputs.specs.declared.Calls.{Calls}
use Rattle.state.specs.declared.State.{State}
use Rattle.tick.specs.declared.Input.{Input}
use Rattle.tick.specs.declared.Ticked.{Ticked}
use Rattle.tick.specs.Tick.{power_up_of, tick_of}
use Rattle.tick.specs.Course.{Call, Course, answer_to, is_accepted, onward}

-- Metering at a rate wanted always, these demands on, no passage: wanted by the technician, at midnight of 1 January 2024, with these
-- calls.
abbrev pub metering_under : Calls → ℕ → List ℕ → Input
metering_under called rate demand = record {
  clock = record { date = record { year = 2024; month = 1; day = 1 }; tenth = 0 };
  lanes = record { demand = demand; passage = replicate 4 0 };
  main = record { working = replicate 6 1; occupied = replicate 6 0; vehicles = replicate 6 0; time = replicate 6 0 };
  calls = called;
  manual = record { kind = 3; rate = rate; table = 0 };
  centre = record { kind = 0; rate = 0; table = 0 };
}

-- The same without a call.
abbrev pub metering_at : ℕ → List ℕ → Input
metering_at = metering_under (record { preemption = 0; bypass = 0 })

-- "Metering at 600 wanted always, demand on, no passage."
abbrev pub metering600 : Input
metering600 = metering_at 600 (replicate 4 1)

-- The same with the fire service's call on.
abbrev pub called600 : Input
called600 = metering_under (record { preemption = 1; bypass = 0 }) 600 (replicate 4 1)

-- The state after k ticks from a state.
unfoldable pub state_after : Site → Input → ℕ → State → State
state_after x i zero s = s
state_after x i (suc k) s = state_after x i k (tick_of x s i).state

-- What tick k since power-up answers, the first being 1.
unfoldable pub answer_at : Site → Input → ℕ → Ticked
answer_at x i k = tick_of x (state_after x i (k - 1) (power_up_of x).state) i

-- Of the k ticks from this number on, those that release a lane, each with the lane.
unfoldable pub releases_from : Site → Input → ℕ → ℕ → State → List (ℕ × ℕ)
releases_from x i number zero s = []
releases_from x i number (suc k) s =
    let r : Ticked = tick_of x s i in
    let later : List (ℕ × ℕ) = releases_from x i (number + 1) k r.state in
    cond (eqb r.released 0) later ((number, r.released) ∷ later)

-- The same of the first k ticks since power-up.
unfoldable pub releases : Site → Input → ℕ → List (ℕ × ℕ)
releases x i k = releases_from x i 1 k (power_up_of x).state

-- Whether lane i, from 1, waits at a tick, but for what is asked of a bypass.
unfoldable pub is_waiting_but : ℕ → ℕ → Course → Call → Bool
is_waiting_but i most c call =
    eqb call.input.calls.preemption 0
    && (eqb (get_or call.input.lanes.demand (i - 1) 0) 1
    && (eqb (answer_to c call).state.group.interval 7 && leb (answer_to c call).cycle most))

-- The words of `Waits`, as a test.
unfoldable pub is_waiting : ℕ → ℕ → Course → Call → Bool
is_waiting i most c call = not (answer_to c call).state.group.bypass.kept && is_waiting_but i most c call

-- Whether each tick of a list is accepted and passes a test.
abbrev pub throughout : (Course → Call → Bool) → Course → List Call → Bool
throughout test c [] = true
throughout test c (call ∷ calls) = (is_accepted c call && test c call) && throughout test (onward c call) calls

abbrev pub waits_throughout : ℕ → ℕ → Course → List Call → Bool
waits_throughout i most = throughout (is_waiting i most)

-- k ticks as they are handed in.
abbrev pub calls : Site → Input → ℕ → List Call
calls x i k = replicate k (record { site = x; input = i })
