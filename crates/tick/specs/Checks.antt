-- Document 01, 'Refusals': "Power-up checks 14." "A tick checks 14, 13, 8, 9, 10." `None` is no refusal.
use Rattle.std.specs.Prelude.{Bool, cond, ◌||◌, Option, Some, None}
use Rattle.refusals.specs.declared.Refusal.{Refusal}
use Rattle.refusals.specs.declared.Refusal.TheVariants.{BadClock, BadSample, BadCommand, SpoiltState, SpoiltSite}
use Rattle.timings.specs.declared.Shape.{Shape}
use Rattle.site.specs.declared.Site.{Site}
use Rattle.site.specs.Record.{spoilt_site}
use Rattle.site.specs.Named.{shape_of}
use Rattle.calendar.specs.Clock.{clock_bad}
use Rattle.inputs.specs.Samples.{samples_bad, calls_bad}
use Rattle.inputs.specs.Commands.{commands_bad}
use Rattle.state.specs.declared.State.{State}
use Rattle.state.specs.State.{state_spoilt}
use Rattle.tick.specs.declared.Input.{Input}

-- 9: a detector's sample, or that of the fire service's call or of a bus's.
unfoldable pub sample_bad : Shape → Input → Bool
sample_bad h i = samples_bad i.lanes i.main h.lanes h.mainline || calls_bad i.calls

-- 8, 9, 10: the checks of one tick's input, at a site of this shape.
unfoldable pub input_refusal : Shape → Input → Option Refusal
input_refusal h i =
    cond (clock_bad i.clock) (Some BadClock) (cond (sample_bad h i) (Some BadSample) (cond (commands_bad i.manual i.centre) (Some BadCommand) None))

-- 14, 13, then the input's.
unfoldable pub tick_refusal : Site → State → Input → Option Refusal
tick_refusal x s i =
    cond (spoilt_site x) (Some SpoiltSite) (cond (state_spoilt s (shape_of x)) (Some SpoiltState) (input_refusal (shape_of x) i))
