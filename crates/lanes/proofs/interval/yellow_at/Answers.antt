-- The code's tests are the definition's.
use Rattle.lanes.specs.Intervals.{yellow_at}
use Rattle.loops.proofs.Rules.{tests}
use Rattle.lanes.proofs.interval.yellow_at.Goals as goal

pub returns-then-t-age : goal.returns-then-t-age
unfolding yellow_at
returns-then-t-age c = search tests

pub returns : goal.returns
unfolding yellow_at
returns c = search tests
