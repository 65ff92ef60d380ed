-- Six lanes.
use Rattle.lane_speeds.specs.Speeds.{speeds_timed}
use Rattle.lane_speeds.proofs.timed.Goals as goal

pub returns : goal.returns
unfolding speeds_timed
returns c = rw (c.current_after-6.ensures, c.current_after-5.ensures, c.current_after-4.ensures, c.current_after-3.ensures, c.current_after-2.ensures, c.current_after.ensures)
