-- The four lanes.
use Rattle.lanes.specs.Lanes.{lanes_entered}
use Rattle.lanes.proofs.entered.Goals as goal

pub returns : goal.returns
unfolding lanes_entered
returns c = simp (c.of_lanes.ensures, c.entered_lane-d.ensures, c.entered_lane-c.ensures, c.entered_lane-b.ensures, c.entered_lane-a.ensures)
