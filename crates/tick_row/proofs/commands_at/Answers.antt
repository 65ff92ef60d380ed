-- The sum is the definition's.
use Rattle.tick_row.specs.Row.{mainline_at, calls_at, commands_at}
use native.Mathlib.Omega.{arith}
use Rattle.tick_row.proofs.commands_at.Goals as goal

pub overflow_add-result : goal.overflow_add-result
unfolding mainline_at calls_at
overflow_add-result c = omega (arith, c.calls_at.ensures)

pub returns : goal.returns
unfolding commands_at
returns c = simp c.calls_at.ensures
