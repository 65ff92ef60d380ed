-- The code's tests are the definition's.
use Rattle.levels.specs.Levels.{decides}
use borrow.Author.Tests.{eq-eqb, ne_eqb}
use Rattle.levels.proofs.decides_for.Goals as goal

pub returns-then-l-table : goal.returns-then-l-table
unfolding decides
returns-then-l-table c = rw (ne_eqb _ _ c.if-l-table.true)

pub returns : goal.returns
unfolding decides
returns c = rw (eq-eqb _ _ c.if-l-table.false) c.is_met.ensures
