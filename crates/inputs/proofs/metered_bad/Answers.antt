-- The code's tests are the definition's.
use Rattle.inputs.specs.Samples.{metered_bad}
use Rattle.loops.proofs.Rules.{tests}
use Rattle.inputs.proofs.metered_bad.Goals as goal

pub returns-then-s-gt1 : goal.returns-then-s-gt1
unfolding metered_bad
returns-then-s-gt1 c = search tests

pub returns : goal.returns
unfolding metered_bad
returns c = search tests
