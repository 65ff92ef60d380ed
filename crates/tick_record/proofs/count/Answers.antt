-- Twice the sum is the definition's.
use Rattle.tick_record.specs.Record.{metered_count, mainline_count, calls_count, commands_count, record_size}
use native.Mathlib.Omega.{arith}
use Rattle.tick_record.proofs.count.Goals as goal

pub overflow_add-result : goal.overflow_add-result
unfolding metered_count mainline_count calls_count commands_count
overflow_add-result c = omega (arith, c.commands_count.ensures)

pub overflow_add-result-2 : goal.overflow_add-result-2
unfolding metered_count mainline_count calls_count commands_count
overflow_add-result-2 c = omega (arith, c.commands_count.ensures)

pub returns : goal.returns
unfolding metered_count mainline_count calls_count commands_count record_size
returns c = omega (arith, c.commands_count.ensures)
