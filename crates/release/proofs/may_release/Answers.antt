-- The code's test is the definition's.
use Rattle.release.specs.Release.{may_release}
use borrow.Author.Tests.{eq-eqb, ne_eqb}
use Rattle.release.proofs.may_release.Goals as goal

pub returns-then-t-eq-FRACTIONAL_OFFSET : goal.returns-then-t-eq-FRACTIONAL_OFFSET
unfolding may_release
returns-then-t-eq-FRACTIONAL_OFFSET c = rw (eq-eqb _ _ c.if-t-eq-FRACTIONAL_OFFSET.true, c.offset_is_up.ensures)

pub returns : goal.returns
unfolding may_release
returns c = rw (ne_eqb _ _ c.if-t-eq-FRACTIONAL_OFFSET.false, c.any_green.ensures)
