-- The sum is the definition's.
use Rattle.tick_row.specs.Row.{mainline_at, calls_at}
use native.Mathlib.Omega.{arith}
use Rattle.tick_row.proofs.calls_at.Goals as goal

pub overflow_add-result : goal.overflow_add-result
unfolding mainline_at
overflow_add-result c = omega (arith, c.mainline_at.ensures)

pub returns : goal.returns
unfolding calls_at
returns c = simp c.mainline_at.ensures
