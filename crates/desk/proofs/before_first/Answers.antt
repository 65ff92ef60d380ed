-- The two cases.
use borrow.Author.Tests.{eq-eqb, ne_eqb}
use Rattle.desk.specs.Tick.{before_first}
use Rattle.desk.proofs.before_first.Goals as goal

pub returns-then-d-eq0 : goal.returns-then-d-eq0
unfolding before_first
returns-then-d-eq0 c = rw (eq-eqb _ _ c.if-d-eq0.true)

pub returns-else-d-eq0 : goal.returns-else-d-eq0
unfolding before_first
returns-else-d-eq0 c = rw (ne_eqb _ _ c.if-d-eq0.false)
