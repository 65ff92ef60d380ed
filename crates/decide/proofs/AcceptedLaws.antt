-- What is not refused has a site, a state and a clock in range.
use mathlib.Core.Path.{◌≡◌, refl, sym}
use mathlib.Core.Bool.{Bool, true, false}
use Rattle.std.specs.Prelude.{None}
use Rattle.std.proofs.lemmas.Option.{none-some}
use Rattle.site.specs.declared.Site.{Site}
use Rattle.site.specs.Record.{spoilt_site}
use Rattle.site.specs.Named.{shape_of}
use Rattle.calendar.specs.declared.clock.Clock.{Clock}
use Rattle.calendar.specs.Clock.{clock_bad}
use Rattle.inputs.specs.declared.Command.{Command}
use Rattle.state.specs.declared.State.{State}
use Rattle.state.specs.State.{state_spoilt}
use Rattle.decide.specs.Decide.{first_refusal, refusal_of}

good : (site state clock commands : Bool) → first_refusal site state clock commands ≡ None → (site ≡ false) × ((state ≡ false) × (clock ≡ false))
unfolding first_refusal
good true state clock commands z = absurd (none-some _ (sym z))
good false true clock commands z = absurd (none-some _ (sym z))
good false false true commands z = absurd (none-some _ (sym z))
good false false false commands z = (refl, (refl, refl))

pub accepted : (x : Site) (s : State) (clock : Clock) (manual centre : Command) → refusal_of x s clock manual centre ≡ None
    → (spoilt_site x ≡ false) × ((state_spoilt s (shape_of x) ≡ false) × (clock_bad clock ≡ false))
unfolding refusal_of
accepted x s clock manual centre z = good _ _ _ _ z
