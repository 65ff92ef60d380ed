-- The code's tests are the definition's.
use Rattle.group.specs.Range.{colour_spoilt}
use borrow.Author.Tests.{eq-eqb, ne_eqb}
use Rattle.group.proofs.range.colour_spoilt.Goals as goal

pub returns-then-interval-eq-METERING : goal.returns-then-interval-eq-METERING
unfolding colour_spoilt
returns-then-interval-eq-METERING c = rw (eq-eqb _ _ c.if-interval-eq-METERING.true) c.no_colour.ensures

pub returns-then-interval-eq-CLOSING : goal.returns-then-interval-eq-CLOSING
unfolding colour_spoilt
returns-then-interval-eq-CLOSING c = rw (ne_eqb _ _ c.if-interval-eq-METERING.false, eq-eqb _ _ c.if-interval-eq-CLOSING.true) c.no_colour-then-interval-eq-CLOSING.ensures

pub returns : goal.returns
unfolding colour_spoilt
returns c = rw (ne_eqb _ _ c.if-interval-eq-METERING.false, ne_eqb _ _ c.if-interval-eq-CLOSING.false)
