-- The code's tests are the definition's.
use Rattle.levels.specs.Levels.{reaches_of}
use borrow.Author.Tests.{eq-eqb, ne_eqb}
use Rattle.levels.proofs.reaches.Goals as goal

pub returns-then-threshold-eq-UNUSED : goal.returns-then-threshold-eq-UNUSED
unfolding reaches_of
returns-then-threshold-eq-UNUSED c = rw (eq-eqb _ _ c.if-threshold-eq-UNUSED.true)

pub returns : goal.returns
unfolding reaches_of
returns c = rw (ne_eqb _ _ c.if-threshold-eq-UNUSED.false)
