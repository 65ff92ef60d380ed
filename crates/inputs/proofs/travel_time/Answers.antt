-- The code's tests are the definition's.
use Rattle.inputs.specs.Samples.{travel_time}
use borrow.Author.Tests.{eq-eqb, ne_eqb}
use Rattle.inputs.proofs.travel_time.Goals as goal

pub returns-then-s-ne1 : goal.returns-then-s-ne1
unfolding travel_time
returns-then-s-ne1 c = rw (ne_eqb _ _ c.if-s-ne1.true)

pub returns-then-s-ne1-2 : goal.returns-then-s-ne1-2
unfolding travel_time
returns-then-s-ne1-2 c = rw (eq-eqb _ _ c.if-s-ne1.false, ne_eqb _ _ c.if-s-ne1-2.true)

pub returns : goal.returns
unfolding travel_time
returns c = rw (eq-eqb _ _ c.if-s-ne1.false, eq-eqb _ _ c.if-s-ne1-2.false)
