-- Two bytes a number.
use Rattle.tick_record.specs.Record.{record_size}
use native.Mathlib.Omega.{arith}
use Rattle.tick_record.proofs.size.Goals as goal

pub overflow_mul-result : goal.overflow_mul-result
unfolding record_size
overflow_mul-result c = omega (arith, c.count.ensures)
