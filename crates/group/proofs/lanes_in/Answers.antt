-- The code's tests are the definition's.
use Rattle.group.specs.Group.{lanes_in}
use borrow.Author.Tests.{eq-eqb, ne_eqb}
use Rattle.group.proofs.lanes_in.Goals as goal

pub returns-then-before-eq-METERING : goal.returns-then-before-eq-METERING
unfolding lanes_in
returns-then-before-eq-METERING c = rw (eq-eqb _ _ c.if-now-eq-METERING.true, eq-eqb _ _ c.if-before-eq-METERING.true) c.tick.ensures

pub returns-then-now-eq-METERING : goal.returns-then-now-eq-METERING
unfolding lanes_in
returns-then-now-eq-METERING c = rw (eq-eqb _ _ c.if-now-eq-METERING.true, ne_eqb _ _ c.if-before-eq-METERING.false) c.entered.ensures

pub returns-then-now-eq-CLOSING : goal.returns-then-now-eq-CLOSING
unfolding lanes_in
returns-then-now-eq-CLOSING c = rw (ne_eqb _ _ c.if-now-eq-METERING.false, eq-eqb _ _ c.if-now-eq-CLOSING.true) c.tick-then-now-eq-CLOSING.ensures

pub returns : goal.returns
unfolding lanes_in
returns c = rw (ne_eqb _ _ c.if-now-eq-METERING.false, ne_eqb _ _ c.if-now-eq-CLOSING.false)
