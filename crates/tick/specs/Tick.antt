-- Document 01, 'One tick's input', 'Refusals': power-up and the tick.
use Rattle.std.specs.Prelude.{ℕ, cond, Option, Some, None}
use Rattle.refusals.specs.declared.Refusal.{Refusal}
use Rattle.refusals.specs.declared.Refusal.TheVariants.{SpoiltState, SpoiltSite}
use Rattle.site.specs.declared.Site.{Site}
use Rattle.site.specs.Record.{spoilt_site}
use Rattle.site.specs.Named.{timings_of, metered_lanes, mainline_lanes}
use Rattle.timings.specs.declared.Timings.{Timings}
use Rattle.period.specs.declared.Periods.{Periods}
use Rattle.period.specs.Counting.{after_tick, after_release}
use Rattle.wanted.specs.declared.Decision.{Decision}
use Rattle.wanted.specs.Wish.{rate_of}
use Rattle.wanted.specs.Decision.{decision_of, no_decision}
use Rattle.release.specs.Cycle.{cycle_ticks}
use Rattle.bypass.specs.declared.Doing.TheVariants.{None as NoBypass}
use Rattle.bypass.specs.Lanes.{doing_of}
use Rattle.group.specs.declared.Group.{Group}
use Rattle.group.specs.declared.Moved.{Moved}
use Rattle.group.specs.Group.{moved_of}
use Rattle.group.specs.declared.indication.Indications.{Indications}
use Rattle.group.specs.Indications.{indications_of, all_dark}
use Rattle.state.specs.declared.State.{State}
use Rattle.state.specs.State.{fresh_state, zero_state}
use Rattle.tick.specs.declared.Input.{Input}
use Rattle.tick.specs.declared.DecidedTick.{DecidedTick}
use Rattle.tick.specs.declared.Ticked.{Ticked}
use Rattle.tick.specs.declared.PoweredUp.{PoweredUp}
use Rattle.tick.specs.Checks.{tick_refusal}

-- "Power-up checks 14; refused, it gives an all-zero state."
unfoldable pub power_up_of : Site → PoweredUp
power_up_of x = cond (spoilt_site x) (record { refusal = Some SpoiltSite; state = zero_state }) (record { refusal = None; state = fresh_state (metered_lanes x) })

-- "Order within a tick: counts, what is wanted, group interval, lane intervals, release." The counts come first, so what is wanted looks at
-- the period that this very tick closes.
unfoldable pub counted_in : Site → State → Input → Periods
counted_in x s i = after_tick s.periods i.lanes i.main (metered_lanes x) (mainline_lanes x)

unfoldable pub decided_in : Site → State → Input → Decision
decided_in x s i = decision_of x i.clock i.manual i.centre (counted_in x s i)

-- "The cycle in force is that of the rate wished; a tick that wishes no metering has none": 0.
unfoldable pub cycle_in : Site → State → Input → ℕ
cycle_in x s i = cycle_ticks (timings_of x).vehicles (rate_of (decided_in x s i).wish)

unfoldable pub moved_in : Site → State → Input → Moved
moved_in x s i = moved_of (timings_of x) i.calls (decided_in x s i).wish (cycle_in x s i) i.lanes s.group

unfoldable pub accepted_tick : Site → State → Input → Ticked
accepted_tick x s i =
    let moved : Moved = moved_in x s i in
    record {
      refusal = None;
      state = record { group = moved.group; periods = after_release (counted_in x s i) moved.released };
      shown = indications_of moved.group (metered_lanes x);
      decision = decided_in x s i;
      cycle = cycle_in x s i;
      released = moved.released;
      bypass = doing_of (timings_of x) moved.group.bypass moved.group.lanes;
    }

-- The same by its parts: what a counted tick decides, with its cycle,
unfoldable pub decided_of : Site → Input → Periods → DecidedTick
decided_of x i counted =
    let decision : Decision = decision_of x i.clock i.manual i.centre counted in
    record { decision = decision; cycle = cycle_ticks (timings_of x).vehicles (rate_of decision.wish) }

-- and what becomes of a group with these timings, counted and decided.
unfoldable pub finished_with : Timings → Group → Input → Periods → DecidedTick → Ticked
finished_with t g i counted decided =
    let moved : Moved = moved_of t i.calls decided.decision.wish decided.cycle i.lanes g in
    record {
      refusal = None;
      state = record { group = moved.group; periods = after_release counted moved.released };
      shown = indications_of moved.group t.lanes;
      decision = decided.decision;
      cycle = decided.cycle;
      released = moved.released;
      bypass = doing_of t moved.group.bypass moved.group.lanes;
    }

-- "After 13 or 14 its indications are all dark with the sign off; after 8-10 they are those of that state."
unfoldable pub shown_after : Site → State → Refusal → Indications
shown_after x s SpoiltState = all_dark
shown_after x s SpoiltSite = all_dark
shown_after x s refusal = indications_of s.group (metered_lanes x)

-- "A refused tick returns the state that came." It decided nothing, and names no bypass, also where one is kept.
unfoldable pub refused_tick : Site → State → Refusal → Ticked
refused_tick x s refusal = record {
  refusal = Some refusal;
  state = s;
  shown = shown_after x s refusal;
  decision = no_decision;
  cycle = 0;
  released = 0;
  bypass = NoBypass;
}

-- A tick of which the checks say so.
unfoldable pub tick_by : Site → State → Input → Option Refusal → Ticked
tick_by x s i None = accepted_tick x s i
tick_by x s i (Some refusal) = refused_tick x s refusal

unfoldable pub tick_of : Site → State → Input → Ticked
tick_of x s i = tick_by x s i (tick_refusal x s i)
