-- The code's tests are the definition's.
use Rattle.bypass.specs.Lanes.{doing_of}
use borrow.Author.Tests.{eq-eqb, ne_eqb}
use Rattle.bypass.proofs.at_lanes.does.Goals as goal

pub returns-then-lane-eq-GREEN : goal.returns-then-lane-eq-GREEN
unfolding doing_of
returns-then-lane-eq-GREEN c = rw (c.if-b.true, ← c.priority_lane-lane.ensures, eq-eqb _ _ c.if-lane-eq-GREEN.true)

pub returns-then-b : goal.returns-then-b
unfolding doing_of
returns-then-b c = rw (c.if-b.true, ← c.priority_lane-lane.ensures, ne_eqb _ _ c.if-lane-eq-GREEN.false)

pub returns : goal.returns
unfolding doing_of
returns c = rw c.if-b.false
