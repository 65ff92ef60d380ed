-- The code's tests are the definition's.
use Rattle.release.specs.Release.{green_if}
use Rattle.loops.proofs.Rules.{tests}
use Rattle.release.proofs.green_if.Goals as goal

pub returns-then-released-k : goal.returns-then-released-k
unfolding green_if
returns-then-released-k c = search tests

pub returns : goal.returns
unfolding green_if
returns c = search tests
