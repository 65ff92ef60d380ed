-- Each lane's number is the definition's.
use Rattle.tick_row.specs.Row.{of_metered}
use Rattle.tick_row.proofs.of_metered.Goals as goal

pub returns : goal.returns
unfolding of_metered
returns g c row is = simp (c.of_lane-4.ensures row is, c.of_lane-3.ensures row is, c.of_lane-2.ensures row is, c.of_lane.ensures row is)
