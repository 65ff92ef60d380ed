-- The code's test is the definition's.
use Rattle.lanes.specs.Lanes.{ending_of}
use Rattle.loops.proofs.Rules.{tests}
use Rattle.lanes.proofs.ending_of.Goals as goal

pub returns-then-e-k : goal.returns-then-e-k
unfolding ending_of
returns-then-e-k c = search tests

pub returns : goal.returns
unfolding ending_of
returns c = search tests
