-- The code's tests are the definition's.
use Rattle.lanes.specs.Lanes.{lane_entered}
use Rattle.loops.proofs.Rules.{tests}
use Rattle.lanes.proofs.entered_lane.Goals as goal

pub returns-then-i-n : goal.returns-then-i-n
unfolding lane_entered
returns-then-i-n c = search tests

pub returns : goal.returns
unfolding lane_entered
returns c = search tests
