-- The code's tests are the definition's.
use Rattle.release.specs.Release.{is_ready}
use borrow.Author.Tests.{eq-eqb, ne_eqb}
use Rattle.release.proofs.is_ready.Goals as goal

pub returns-then-demand-eq1 : goal.returns-then-demand-eq1
unfolding is_ready
returns-then-demand-eq1 c = rw (← c.has_been_red.ensures, c.if-has_been_red.true, eq-eqb _ _ c.if-demand-eq1.true)

pub returns-else-demand-eq1 : goal.returns-else-demand-eq1
unfolding is_ready
returns-else-demand-eq1 c = rw (← c.has_been_red.ensures, c.if-has_been_red.true, ne_eqb _ _ c.if-demand-eq1.false)

pub returns-else-has_been_red : goal.returns-else-has_been_red
unfolding is_ready
returns-else-has_been_red c = rw (← c.has_been_red.ensures, c.if-has_been_red.false)
