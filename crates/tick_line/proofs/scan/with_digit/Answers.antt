-- The record is the definition's.
use Rattle.tick_line.specs.Scan.{with_digit}
use Rattle.tick_line.proofs.scan.with_digit.Goals as goal

pub returns : goal.returns
unfolding with_digit
returns c = rw (c.grown.ensures, c.after_digit.ensures)
