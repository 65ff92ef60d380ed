-- The released lane's greens rise by one.
use Rattle.period.specs.Counting.{greens_at}
use borrow.Author.Tests.{eq-eqb, ne_eqb}
use Rattle.period.proofs.count.greens_at.Goals as goal

pub returns-then-released-i : goal.returns-then-released-i
unfolding greens_at
returns-then-released-i c = rw (eq-eqb _ _ c.if-released-i.true)

pub returns : goal.returns
unfolding greens_at
returns c = rw (ne_eqb _ _ c.if-released-i.false)
