-- The code's tests are the definition's.
use Rattle.turns.specs.Turn.{next_of}
use Rattle.loops.proofs.Rules.{tests}
use Rattle.release.proofs.next_lane.Goals as goal

pub returns-then-k-n : goal.returns-then-k-n
unfolding next_of
returns-then-k-n c = search tests

pub returns-else-k-n : goal.returns-else-k-n
unfolding next_of
returns-else-k-n c = search tests
