-- The sum is the definition's.
use Rattle.tick_row.specs.Row.{mainline_at, calls_at, commands_at, row_size}
use native.Mathlib.Omega.{arith}
use Rattle.tick_row.proofs.row_size.Goals as goal

pub overflow_add-result : goal.overflow_add-result
unfolding mainline_at calls_at commands_at
overflow_add-result c = omega (arith, c.commands_at.ensures)

pub returns : goal.returns
unfolding row_size
returns c = simp c.commands_at.ensures
