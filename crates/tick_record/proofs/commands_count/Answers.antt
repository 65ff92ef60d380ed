-- The sum is the definition's.
use Rattle.tick_record.specs.Record.{metered_count, mainline_count, calls_count, commands_count}
use native.Mathlib.Omega.{arith}
use Rattle.tick_record.proofs.commands_count.Goals as goal

pub overflow_add-result : goal.overflow_add-result
unfolding metered_count mainline_count calls_count
overflow_add-result c = omega (arith, c.calls_count.ensures)

pub overflow_add-result-2 : goal.overflow_add-result-2
unfolding metered_count mainline_count calls_count
overflow_add-result-2 c = omega (arith, c.calls_count.ensures)

pub returns : goal.returns
unfolding commands_count
returns c = simp c.calls_count.ensures
