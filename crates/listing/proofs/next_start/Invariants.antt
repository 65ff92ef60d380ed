-- The loop's invariant: best is the next start among the entries passed.
use Rattle.listing.specs.NextStart.{next_start_of}
use mathlib.Core.Path.{◌≡◌}
use Rattle.listing.proofs.next_start.Given as goal

abbrev pub invariant-loop-i : goal.invariant-loop-i
invariant-loop-i l = l.best ≡ next_start_of l.plan.numbers.now l.from l.i
