-- The code's test is the definition's.
use Rattle.tick_line.specs.Scan.{closed}
use Rattle.tick_line.proofs.scan.closed.Goals as goal

pub returns-then-in_number : goal.returns-then-in_number
unfolding closed
returns-then-in_number c = rw (← c.in_number.ensures, c.if-in_number.true) c.ended.ensures

pub returns : goal.returns
unfolding closed
returns c = rw (← c.in_number.ensures, c.if-in_number.false)
