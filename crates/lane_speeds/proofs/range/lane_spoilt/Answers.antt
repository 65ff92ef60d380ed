-- Five speeds.
use Rattle.lane_speeds.specs.Speeds.{lane_speeds_spoilt}
use Rattle.lane_speeds.proofs.range.lane_spoilt.Goals as goal

pub returns : goal.returns
unfolding lane_speeds_spoilt
returns c = rw (c.spoilt_at-5.ensures, c.spoilt_at-4.ensures, c.spoilt_at-3.ensures, c.spoilt_at-2.ensures, c.spoilt_at.ensures, c.earlier_at-earlier.ensures, c.last_at-last.ensures, c.current_at-current.ensures)
