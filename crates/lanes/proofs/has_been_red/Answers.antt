-- The code's tests are the definition's.
use Rattle.lanes.specs.Intervals.{has_been_red}
use Rattle.loops.proofs.Rules.{tests}
use Rattle.lanes.proofs.has_been_red.Goals as goal

pub returns-then-l-ne-RED : goal.returns-then-l-ne-RED
unfolding has_been_red
returns-then-l-ne-RED c = search tests

pub returns : goal.returns
unfolding has_been_red
returns c = search tests
