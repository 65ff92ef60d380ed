-- The sum is the definition's.
use Rattle.tick_record.specs.Record.{metered_count, mainline_count}
use native.Mathlib.Omega.{arith}
use Rattle.tick_record.proofs.mainline_count.Goals as goal

pub returns : goal.returns
unfolding metered_count mainline_count
returns c = omega arith
