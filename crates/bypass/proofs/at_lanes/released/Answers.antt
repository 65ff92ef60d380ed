-- The code's tests are the definition's, and what that gives is what the words say.
use Prim.Native.Nat.{ℕ}
use mathlib.Core.Path.{◌≡◌, sym, subst}
use Rattle.timings.specs.declared.Timings.{Timings}
use Rattle.lanes.specs.declared.Lanes.{Lanes}
use Rattle.bypass.specs.Lanes.{released_for}
use Rattle.bypass.specs.Found.{FoundFor}
use Rattle.bypass.proofs.BypassLaws.{found_for}
use Rattle.bypass.proofs.at_lanes.released.Goals as goal

as_said : (t : Timings) (s : Lanes) (r : ℕ) → r ≡ released_for t s → (r ≡ released_for t s) × FoundFor t s r
as_said t s r e = (e, subst (FoundFor t s) (sym e) (found_for t s))

pub returns-then-others_red : goal.returns-then-others_red
unfolding released_for
returns-then-others_red c =
    let a = c.args in
    let all = as_said a.t a.s _
    (rw (← c.priority_lane-lane.ensures, ← c.has_been_red.ensures, c.if-has_been_red.true, ← c.others_red.ensures, c.if-others_red.true)) in record { is = all.0; finds = all.1 }

pub returns-else-others_red : goal.returns-else-others_red
unfolding released_for
returns-else-others_red c =
    let a = c.args in
    let all = as_said a.t a.s _
    (rw (← c.priority_lane-lane.ensures, ← c.has_been_red.ensures, c.if-has_been_red.true, ← c.others_red.ensures, c.if-others_red.false)) in record { is = all.0; finds = all.1 }

pub returns-else-has_been_red : goal.returns-else-has_been_red
unfolding released_for
returns-else-has_been_red c =
    let a = c.args in
    let all = as_said a.t a.s _ (rw (← c.priority_lane-lane.ensures, ← c.has_been_red.ensures, c.if-has_been_red.false)) in record { is = all.0; finds = all.1 }
