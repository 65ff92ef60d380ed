-- The lane and its demand.
use Rattle.release.specs.Release.{ready_at}
use Rattle.release.proofs.ready_at.Goals as goal

pub returns : goal.returns
unfolding ready_at
returns c = simp (c.is_ready.ensures, c.lane_at-lane.ensures, c.sample_at-wants.ensures)
