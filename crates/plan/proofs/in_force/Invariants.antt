-- The loop's invariant: the search that is left, from what was found so far, ends as the whole does.
use Rattle.plan.specs.InForce.{in_force_from}
use Prim.Native.Nat.{◌≤◌, ◌-◌}
use mathlib.Core.Path.{◌≡◌}
use Rattle.plan.proofs.in_force.Given as goal

abbrev pub invariant-loop-i : goal.invariant-loop-i
invariant-loop-i l = (l.i ≤ l.plan.count) × (in_force_from l.plan.numbers.now l.day l.minute l.best l.start l.i (l.plan.count - l.i) ≡ in_force_from l.plan.numbers.now l.day l.minute 0 0 0 l.plan.count)
