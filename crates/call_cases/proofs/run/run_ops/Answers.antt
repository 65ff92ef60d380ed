-- Each operation lies within the bytes that are left.
use Rattle.std.proofs.Common.{ℕ, ◌-◌, ◌≤◌, List, length, take, arith, length-take}
use Rattle.call_cases.proofs.run.run_ops.Goals as goal
use Rattle.call_cases.proofs.run.run_ops.Goals.{After-op_size-size}

part_fits : {A : Type 0} (k : ℕ) (l : List A) (n : ℕ) → n ≤ length (take k l) → n ≤ k
part_fits k l n h = omega (arith, h, length-take k l)

size_fits : (c : After-op_size-size) → c.op_size-size.result ≤ length c.args.ops.now - c.loop-at.at
size_fits c = part_fits _ _ _ c.op_size-size.ensures

pub overflow_add-at : goal.overflow_add-at
overflow_add-at c = omega (arith, size_fits (goal.at.overflow_add-at c).After-op_size-size)

pub loop-at-smaller : goal.loop-at-smaller
loop-at-smaller c = omega (arith, size_fits (goal.at.loop-at-smaller c).After-op_size-size)

pub loop-at-preserved : goal.loop-at-preserved
loop-at-preserved c = omega (arith, size_fits (goal.at.loop-at-preserved c).After-op_size-size)
