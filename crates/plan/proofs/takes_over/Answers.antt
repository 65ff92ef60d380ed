-- The code's three tests are the definition's.
use Rattle.plan.specs.InForce.{takes_over}
use borrow.Author.Tests.{eq-eqb, ne_eqb, not-true, not-false}
use Rattle.plan.proofs.takes_over.Goals as goal

pub returns-then-not-applies : goal.returns-then-not-applies
unfolding takes_over
returns-then-not-applies c = rw (← c.applies.ensures, not-true c.applies.result c.if-not-applies.true-raw)

pub returns-then-best-eq0 : goal.returns-then-best-eq0
unfolding takes_over
returns-then-best-eq0 c = rw (← c.applies.ensures, not-false c.applies.result c.if-not-applies.false-raw, eq-eqb _ _ c.if-best-eq0.true)

pub returns : goal.returns
unfolding takes_over
returns c = rw (← c.applies.ensures, not-false c.applies.result c.if-not-applies.false-raw, ne_eqb _ _ c.if-best-eq0.false)
