-- Each lane's number is the definition's.
use Rattle.tick_row.specs.Row.{of_mainline}
use Rattle.tick_row.proofs.of_mainline.Goals as goal

pub returns : goal.returns
unfolding of_mainline
returns g c row is = simp (c.of_lane-6.ensures row is, c.of_lane-5.ensures row is, c.of_lane-4.ensures row is, c.of_lane-3.ensures row is, c.of_lane-2.ensures row is, c.of_lane.ensures row is)
