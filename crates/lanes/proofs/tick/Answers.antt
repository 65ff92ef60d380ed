-- The four lanes, and the offset counter.
use Rattle.lanes.specs.Lanes.{lanes_tick}
use Rattle.lanes.proofs.tick.Goals as goal

pub returns : goal.returns
unfolding lanes_tick
returns c = simp (c.of_lanes.ensures, c.rise.ensures, c.tick_at-d.ensures _ c.lane_at-4.ensures, c.tick_at-c.ensures _ c.lane_at-3.ensures, c.tick_at-b.ensures _ c.lane_at-2.ensures, c.tick_at-a.ensures _ c.lane_at.ensures)
