-- The code's test is the definition's.
use borrow.Author.Tests.{le-leb, lt-leb}
use Rattle.tick_line.specs.Scan.{ended}
use Rattle.tick_line.proofs.scan.ended.Goals as goal

pub returns-then-most_of-s : goal.returns-then-most_of-s
unfolding ended
returns-then-most_of-s c = rw (← c.one_more-word.ensures, ← c.most_of.ensures, lt-leb _ _ c.if-most_of-s.true) c.in_stage.ensures

pub returns : goal.returns
unfolding ended
returns c = rw (← c.one_more-word.ensures, ← c.most_of.ensures, le-leb _ _ c.if-most_of-s.false, c.with_number.ensures)
