-- The code's test is the definition's.
use borrow.Author.Tests.{eq-eqb, ne_eqb}
use Rattle.tick_line.specs.Reading.{counted}
use Rattle.tick_line.proofs.reading.counted.Goals as goal

pub returns-then-words-wanted : goal.returns-then-words-wanted
unfolding counted
returns-then-words-wanted c = rw (eq-eqb _ _ c.if-words-wanted.true)

pub returns : goal.returns
unfolding counted
returns c = rw (ne_eqb _ _ c.if-words-wanted.false)
