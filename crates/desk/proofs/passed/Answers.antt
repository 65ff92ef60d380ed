-- The place that the search finds, or none.
use borrow.Author.Tests.{eq-eqb, ne_eqb}
use Rattle.desk.specs.Tick.{passed_of, polled_at}
use Rattle.desk.proofs.passed.Goals as goal

pub returns-then-place-eq0 : goal.returns-then-place-eq0
unfolding passed_of polled_at
returns-then-place-eq0 c = rw (← c.before_first.ensures, ← c.first_after-place.ensures, eq-eqb _ _ c.if-place-eq0.true)

pub returns : goal.returns
unfolding passed_of polled_at
returns c = rw (← c.before_first.ensures, ← c.first_after-place.ensures, ne_eqb _ _ c.if-place-eq0.false)
