-- The code's test is the definition's, and what that gives is what the words say.
use Prim.Native.Nat.{ℕ, ◌≤◌}
use mathlib.Core.Path.{◌≡◌, sym, ◌∙◌, subst}
use mathlib.Core.List.{List}
use Rattle.timings.specs.declared.Timings.{Timings}
use Rattle.lanes.specs.declared.Lanes.{Lanes}
use Rattle.release.specs.Release.{released_of}
use Rattle.release.specs.Found.{Found}
use Rattle.release.proofs.FoundLaws.{found, found_once}
use Rattle.release.proofs.released.Goals as goal

as_said : (t : Timings) (cycle : ℕ) (demand : List ℕ) (s : Lanes) (r : ℕ) → r ≡ released_of t cycle demand s
    → (r ≡ released_of t cycle demand s)
    × ((1 ≤ s.last → s.last ≤ t.lanes → Found t cycle demand s r)
    × (1 ≤ s.last → s.last ≤ t.lanes → (k : ℕ) → Found t cycle demand s k → k ≡ r))
as_said t cycle demand s r e =
    let words : 1 ≤ s.last → s.last ≤ t.lanes → Found t cycle demand s r =
    λ least most. subst (Found t cycle demand s) (sym e) (found t cycle demand s least most) in
    (e, (words, λ least most k f. found_once t cycle demand s k r f (words least most)))

pub returns-then-may_release : goal.returns-then-may_release
unfolding released_of
returns-then-may_release c =
    let a = c.args in
    let all = as_said a.t a.cycle a.demand a.s _ (rw (sym c.may_release.ensures ∙ c.if-may_release.true) c.first_ready.ensures) in record { is = all.0; finds = all.1.0; only = all.1.1 }

pub returns : goal.returns
unfolding released_of
returns c =
    let a = c.args in
    let all = as_said a.t a.cycle a.demand a.s 0 (rw (sym c.may_release.ensures ∙ c.if-may_release.false)) in record { is = all.0; finds = all.1.0; only = all.1.1 }
