-- The code's tests are the definition's.
use Rattle.group.specs.Group.{released_in}
use borrow.Author.Tests.{eq-eqb, ne_eqb}
use Rattle.group.proofs.released_in.Goals as goal

pub returns-then-kept : goal.returns-then-kept
unfolding released_in
returns-then-kept c = rw c.if-kept.true c.released.ensures.is

pub returns-then-now-eq-METERING : goal.returns-then-now-eq-METERING
unfolding released_in
returns-then-now-eq-METERING c = rw (c.if-kept.false, eq-eqb _ _ c.if-now-eq-METERING.true) c.released-then-now-eq-METERING.ensures.is

pub returns : goal.returns
unfolding released_in
returns c = rw (c.if-kept.false, ne_eqb _ _ c.if-now-eq-METERING.false)
