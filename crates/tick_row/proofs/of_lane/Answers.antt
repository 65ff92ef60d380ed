-- The code's test is the definition's.
use Rattle.loops.proofs.Rules.{tests}
use Rattle.tick_row.specs.Row.{of_lane}
use Rattle.tick_row.proofs.of_lane.Goals as goal

pub returns-then-lanes-i : goal.returns-then-lanes-i
unfolding of_lane
returns-then-lanes-i g c row is = search tests

pub returns : goal.returns
unfolding of_lane
returns g c row is = search (tests, is _ _ c.number.ensures)
