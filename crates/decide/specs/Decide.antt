-- Document 01, 'Day and entry', 'What is wanted', 'Refusals': what a clock and two commands decide at a site and a state, or why nothing.
use Rattle.std.specs.Prelude.{Bool, cond, Option, Some, None, Result, Ok, Err}
use Rattle.refusals.specs.declared.Refusal.{Refusal}
use Rattle.refusals.specs.declared.Refusal.TheVariants.{BadClock, BadCommand, SpoiltState, SpoiltSite}
use Rattle.site.specs.declared.Site.{Site}
use Rattle.site.specs.Record.{spoilt_site}
use Rattle.site.specs.Named.{shape_of}
use Rattle.calendar.specs.declared.clock.Clock.{Clock}
use Rattle.calendar.specs.Clock.{clock_bad}
use Rattle.inputs.specs.declared.Command.{Command}
use Rattle.inputs.specs.Commands.{commands_bad}
use Rattle.wanted.specs.declared.Decision.{Decision}
use Rattle.wanted.specs.Decision.{decision_of, no_decision}
use Rattle.state.specs.declared.State.{State}
use Rattle.state.specs.State.{state_spoilt}

-- The first check that refuses, in the order of a tick: 14, 13, 8, 10.
unfoldable pub first_refusal : Bool → Bool → Bool → Bool → Option Refusal
first_refusal site state clock commands =
    cond site (Some SpoiltSite) (cond state (Some SpoiltState) (cond clock (Some BadClock) (cond commands (Some BadCommand) None)))

unfoldable pub refusal_of : Site → State → Clock → Command → Command → Option Refusal
refusal_of x s clock manual centre = first_refusal (spoilt_site x) (state_spoilt s (shape_of x)) (clock_bad clock) (commands_bad manual centre)

-- A decision, where the checks do not refuse it. Crate many_ticks says the same of an input: what both crates use is about sites and states, not
-- about answers.
unfoldable pub unless : Option Refusal → Decision → Result Decision Refusal
unless None decision = Ok decision
unless (Some refusal) decision = Err refusal

unfoldable pub decided_of : Site → State → Clock → Command → Command → Result Decision Refusal
decided_of x s clock manual centre = unless (refusal_of x s clock manual centre) (decision_of x clock manual centre s.periods)

-- The decision given: of a refused question nothing is decided, as of a refused tick.
abbrev pub decision_given : Result Decision Refusal → Decision
decision_given (Ok decision) = decision
decision_given (Err refusal) = no_decision
