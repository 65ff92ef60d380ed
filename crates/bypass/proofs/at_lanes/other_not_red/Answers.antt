-- The code's tests are the definition's.
use Rattle.bypass.specs.Lanes.{other_not_red}
use borrow.Author.Tests.{eq-eqb, ne_eqb}
use Rattle.bypass.proofs.at_lanes.other_not_red.Goals as goal

pub returns-then-lane-eq-RED : goal.returns-then-lane-eq-RED
unfolding other_not_red
returns-then-lane-eq-RED c = rw (← c.lane_at-lane.ensures, eq-eqb _ _ c.if-lane-eq-RED.true)

pub returns : goal.returns
unfolding other_not_red
returns c = rw (← c.lane_at-lane.ensures, ne_eqb _ _ c.if-lane-eq-RED.false)
