-- The code's test is the definition's.
use Rattle.wanted.specs.Wish.{planned_of}
use borrow.Author.Tests.{eq-eqb, ne_eqb}
use Rattle.wanted.proofs.wish.planned.Goals as goal

pub returns-then-place-eq0 : goal.returns-then-place-eq0
unfolding planned_of
returns-then-place-eq0 c = rw (eq-eqb _ _ c.if-place-eq0.true)

pub returns : goal.returns
unfolding planned_of
returns c = rw (ne_eqb _ _ c.if-place-eq0.false, c.kind_of.ensures, c.entry_at-e.ensures)
