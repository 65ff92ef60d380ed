-- What a tick adds to a replay's output.
use Rattle.std.specs.Prelude.{ℕ, ◌≡◌, Bool, true, cond, not, ◌&&◌, List, [], ◌++◌, eqb}
use Rattle.std.specs.Option.{is_some}
use Rattle.site.specs.declared.Site.{Site}
use Rattle.site.specs.Named.{metered_lanes, mainline_lanes}
use Rattle.state.specs.declared.State.{State}
use Rattle.tick.specs.declared.Input.{Input}
use Rattle.tick.specs.declared.Ticked.{Ticked}
use Rattle.tick.specs.Tick.{tick_of}
use Rattle.poll.specs.Poll.{poll_of, refusal_of}
use Rattle.readings.specs.Readings.{read_of}
use Rattle.readings_text.specs.Line.{speeds_line}
use Rattle.tick_text.specs.Lines.{tick_line, poll_line}

-- A tick completes a period if it is accepted and leaves the open period with no tick.
unfoldable pub completes : Ticked → Bool
completes t = not (is_some t.refusal) && eqb t.state.periods.ticks 0

-- The poll record's line, and the line of the readings; behind a completed period neither call is refused (`PeriodPolled`).
unfoldable pub polled_text : Site → State → List ℕ
polled_text x s = poll_line (cond (is_some (refusal_of x s)) [] (poll_of x s))

unfoldable pub speeds_text : Site → State → List ℕ
speeds_text x s = cond (is_some (read_of x s).refusal) [] (speeds_line (read_of x s) (mainline_lanes x))

-- Whatever state and input a tick is given: if it completes a period, the poll's line has the record of its state, and the line behind it
-- the readings.
unfoldable pub PeriodPolled : Site → Type 0
PeriodPolled x =
    (s : State) (i : Input) → completes (tick_of x s i) ≡ true
    → (polled_text x (tick_of x s i).state ≡ poll_line (poll_of x (tick_of x s i).state))
    × (speeds_text x (tick_of x s i).state ≡ speeds_line (read_of x (tick_of x s i).state) (mainline_lanes x))

-- The tick's line, and where the tick completed a period the poll's and the readings'.
unfoldable pub answer_text : Site → ℕ → Ticked → List ℕ
answer_text x number t = tick_line number (metered_lanes x) t ++ cond (completes t) (polled_text x t.state ++ speeds_text x t.state) []
