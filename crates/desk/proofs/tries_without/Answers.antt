-- The tests, in turn.
use borrow.Author.Tests.{eq-eqb, ne_eqb}
use Rattle.desk.specs.Desk.{tries_without}
use Rattle.desk.proofs.tries_without.Goals as goal

pub returns-then-cabinet-d : goal.returns-then-cabinet-d
unfolding tries_without
returns-then-cabinet-d c = rw (ne_eqb _ _ c.if-cabinet-d.true)

pub returns-then-d-eq0 : goal.returns-then-d-eq0
unfolding tries_without
returns-then-d-eq0 c = rw (eq-eqb _ _ c.if-cabinet-d.false, eq-eqb _ _ c.if-d-eq0.true)

pub returns : goal.returns
unfolding tries_without
returns c = rw (eq-eqb _ _ c.if-cabinet-d.false, ne_eqb _ _ c.if-d-eq0.false)
