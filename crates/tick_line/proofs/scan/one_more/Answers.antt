-- The smaller of the two.
use native.Mathlib.Omega.{arith}
use Rattle.tick_line.specs.Scan.{one_more}
use Rattle.tick_line.proofs.scan.one_more.Goals as goal

pub returns-then-count-eq-MOST_COUNTED : goal.returns-then-count-eq-MOST_COUNTED
unfolding one_more
returns-then-count-eq-MOST_COUNTED c = omega arith

pub returns-else-count-eq-MOST_COUNTED : goal.returns-else-count-eq-MOST_COUNTED
unfolding one_more
returns-else-count-eq-MOST_COUNTED c = omega arith
