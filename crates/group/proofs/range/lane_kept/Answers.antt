-- The code's tests are the definition's.
use Rattle.group.specs.Range.{lane_kept}
use Rattle.loops.proofs.Rules.{tests}
use Rattle.group.proofs.range.lane_kept.Goals as goal

pub returns-then-l-gt0 : goal.returns-then-l-gt0
unfolding lane_kept
returns-then-l-gt0 c = search tests

pub returns-then-l-gt0-2 : goal.returns-then-l-gt0-2
unfolding lane_kept
returns-then-l-gt0-2 c = search tests

pub returns-then-l-gt0-3 : goal.returns-then-l-gt0-3
unfolding lane_kept
returns-then-l-gt0-3 c = search tests

pub returns : goal.returns
unfolding lane_kept
returns c = search tests
