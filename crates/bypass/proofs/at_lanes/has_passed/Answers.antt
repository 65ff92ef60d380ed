-- The code's tests are the definition's.
use Rattle.bypass.specs.Lanes.{has_passed}
use borrow.Author.Tests.{eq-eqb, ne_eqb}
use Rattle.bypass.proofs.at_lanes.has_passed.Goals as goal

pub returns-then-lane-ne-GREEN : goal.returns-then-lane-ne-GREEN
unfolding has_passed
returns-then-lane-ne-GREEN c = rw (← c.priority_lane-lane.ensures, ne_eqb _ _ c.if-lane-ne-GREEN.true)

pub returns : goal.returns
unfolding has_passed
returns c = rw (← c.priority_lane-lane.ensures, eq-eqb _ _ c.if-lane-ne-GREEN.false, ← c.place.ensures, ← c.sample_at-sample.ensures)
