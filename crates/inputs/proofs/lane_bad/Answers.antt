-- The code's tests are the definition's.
use Rattle.inputs.specs.Samples.{lane_bad}
use Rattle.loops.proofs.Rules.{tests}
use Rattle.inputs.proofs.lane_bad.Goals as goal

pub returns-then-s-gt1 : goal.returns-then-s-gt1
unfolding lane_bad
returns-then-s-gt1 c = search tests

pub returns-then-s-gt-MOST_OCCUPIED : goal.returns-then-s-gt-MOST_OCCUPIED
unfolding lane_bad
returns-then-s-gt-MOST_OCCUPIED c = search tests

pub returns-then-s-gt1-2 : goal.returns-then-s-gt1-2
unfolding lane_bad
returns-then-s-gt1-2 c = search tests

pub returns : goal.returns
unfolding lane_bad
returns c = search tests
