-- The lane at its place.
use Rattle.bypass.specs.Lanes.{priority_of}
use Rattle.bypass.proofs.at_lanes.priority_lane.Goals as goal

pub returns : goal.returns
unfolding priority_of
returns c = rw (c.lane_at.ensures, c.place.ensures)
