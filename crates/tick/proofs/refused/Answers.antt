-- The lamps of the state, or all dark.
use mathlib.Core.Path.{◌≡◌, refl}
use mathlib.Core.Logic.{inl, inr}
use Rattle.site.specs.declared.Site.{Site}
use Rattle.site.specs.Named.{metered_lanes}
use Rattle.state.specs.declared.State.{State}
use Rattle.group.specs.Indications.{indications_of}
use Rattle.refusals.specs.declared.Refusal.{Refusal}
use Rattle.refusals.specs.declared.Refusal.TheVariants.{SpoiltState, SpoiltSite}
use Rattle.tick.specs.Tick.{shown_after, refused_tick}
use Rattle.tick.proofs.refused.Goals.{in-SpoiltState, in_default}
use Rattle.tick.proofs.refused.Goals as goal

of_the_state : (x : Site) (s : State) (r : Refusal) → (r ≡ SpoiltState → ⊥) → (r ≡ SpoiltSite → ⊥) → shown_after x s r ≡ indications_of s.group (metered_lanes x)
unfolding shown_after
of_the_state x s SpoiltState a b = absurd (a refl)
of_the_state x s SpoiltSite a b = absurd (b refl)
of_the_state x s r a b = refl

pub returns : goal.returns
unfolding shown_after refused_tick
returns c =
    let a = c.args in
    elim c.match-refusal.branch [
      | in-SpoiltState w ↦ elim w.in-SpoiltState.is [ inl e ↦ rw (e, c.no_decision.ensures, w.shown-is, w.all_dark-shown.ensures) | inr e ↦ rw (e, c.no_decision.ensures, w.shown-is, w.all_dark-shown.ensures) ]
      | in_default w ↦ rw (of_the_state a.site a.state a.refusal w.in_default.not-SpoiltState w.in_default.not-SpoiltSite, c.no_decision.ensures, w.shown-is, w.shown-shown.ensures, w.shape_of.ensures)
    ]
