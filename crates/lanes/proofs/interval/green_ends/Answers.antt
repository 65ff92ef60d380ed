-- The code's tests are the definition's.
use Rattle.lanes.specs.Intervals.{green_ends}
use Rattle.loops.proofs.Rules.{tests}
use Rattle.lanes.proofs.interval.green_ends.Goals as goal

pub returns-then-age-t : goal.returns-then-age-t
unfolding green_ends
returns-then-age-t c = search tests

pub returns-then-t-passages : goal.returns-then-t-passages
unfolding green_ends
returns-then-t-passages c = search tests

pub returns : goal.returns
unfolding green_ends
returns c = search tests
