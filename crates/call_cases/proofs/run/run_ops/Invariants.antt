-- Each operation lies within the bytes that are left.
use Rattle.std.proofs.Common.{◌-◌, ◌≤◌, length}
use Rattle.call_cases.proofs.run.run_ops.Given as goal

abbrev pub invariant-loop-at : goal.invariant-loop-at
invariant-loop-at l = l.at ≤ length l.ops

abbrev pub decreases-loop-at : goal.decreases-loop-at
decreases-loop-at l = length l.ops - l.at
