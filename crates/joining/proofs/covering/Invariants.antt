-- The loop's invariant: the entries left answer as all do.
use Rattle.joining.specs.Joining.{covering_of}
use mathlib.Core.Path.{◌≡◌}
use Rattle.joining.proofs.covering.Given as goal

abbrev pub invariant-loop-i : goal.invariant-loop-i
invariant-loop-i l = covering_of l.plan.numbers.now l.e l.i ≡ covering_of l.plan.numbers.now l.e l.plan.count
