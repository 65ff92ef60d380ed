-- The code's test is the definition's.
use Rattle.tick_line.specs.Scan.{with_blank}
use Rattle.tick_line.proofs.scan.with_blank.Goals as goal

pub returns-then-in_number : goal.returns-then-in_number
unfolding with_blank
returns-then-in_number c = rw (← c.in_number.ensures, c.if-in_number.true) c.ended.ensures

pub returns : goal.returns
unfolding with_blank
returns c = rw (← c.in_number.ensures, c.if-in_number.false, ← c.after_blank.ensures) c.in_stage.ensures
