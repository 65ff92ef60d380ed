-- Six lanes.
use Rattle.lane_speeds.specs.Speeds.{speeds_closed}
use Rattle.lane_speeds.proofs.closed.Goals as goal

pub returns : goal.returns
unfolding speeds_closed
returns c = rw (c.earlier_after-6.ensures, c.earlier_after-5.ensures, c.earlier_after-4.ensures, c.earlier_after-3.ensures, c.earlier_after-2.ensures, c.earlier_after.ensures, c.no_speeds-none.ensures)
