-- The code's tests are the definition's.
use Rattle.levels.specs.Levels.{is_slow}
use borrow.Author.Tests.{eq-eqb, ne_eqb}
use Rattle.levels.proofs.is_slow.Goals as goal

pub returns-in-None : goal.returns-in-None
unfolding is_slow
returns-in-None c = rw c.in-None.is

pub returns-then-threshold-ne-UNUSED : goal.returns-then-threshold-ne-UNUSED
unfolding is_slow
returns-then-threshold-ne-UNUSED c = rw (c.in-Some.is, ne_eqb _ _ c.if-threshold-ne-UNUSED.true) c.at_most.ensures

pub returns-else-threshold-ne-UNUSED : goal.returns-else-threshold-ne-UNUSED
unfolding is_slow
returns-else-threshold-ne-UNUSED c = rw (c.in-Some.is, eq-eqb _ _ c.if-threshold-ne-UNUSED.false)
