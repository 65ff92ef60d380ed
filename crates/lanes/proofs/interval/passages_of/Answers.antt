-- The code's tests are the definition's.
use Rattle.lanes.specs.Intervals.{passages_of}
use Rattle.loops.proofs.Rules.{tests}
use Rattle.lanes.proofs.interval.passages_of.Goals as goal

pub returns-then-passage-ne1 : goal.returns-then-passage-ne1
unfolding passages_of
returns-then-passage-ne1 c = search tests

pub returns-then-count-lt-MOST_PASSAGES : goal.returns-then-count-lt-MOST_PASSAGES
unfolding passages_of
returns-then-count-lt-MOST_PASSAGES c = search tests

pub returns : goal.returns
unfolding passages_of
returns c = search tests
