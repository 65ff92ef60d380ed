-- The code's tests are the definition's, the other way round.
use Rattle.wanted.specs.Wish.{source_of}
use borrow.Author.Tests.{eq-eqb, ne_eqb}
use Rattle.wanted.proofs.wish.source_of.Goals as goal

pub returns-then-manual-ne-NONE : goal.returns-then-manual-ne-NONE
unfolding source_of
returns-then-manual-ne-NONE c = rw (ne_eqb _ _ c.if-manual-ne-NONE.true)

pub returns-then-centre-ne-NONE : goal.returns-then-centre-ne-NONE
unfolding source_of
returns-then-centre-ne-NONE c = rw (eq-eqb _ _ c.if-manual-ne-NONE.false, ne_eqb _ _ c.if-centre-ne-NONE.true)

pub returns : goal.returns
unfolding source_of
returns c = rw (eq-eqb _ _ c.if-manual-ne-NONE.false, eq-eqb _ _ c.if-centre-ne-NONE.false)
