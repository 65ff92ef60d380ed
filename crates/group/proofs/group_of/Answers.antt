-- The code's tests are the definition's.
use Rattle.group.specs.Group.{group_of}
use borrow.Author.Tests.{eq-eqb, ne_eqb}
use Rattle.group.proofs.group_of.Goals as goal

pub returns-then-now-g : goal.returns-then-now-g
unfolding group_of
returns-then-now-g c = rw (eq-eqb _ _ c.if-now-g.true, c.older.ensures)

pub returns : goal.returns
unfolding group_of
returns c = rw (ne_eqb _ _ c.if-now-g.false)
