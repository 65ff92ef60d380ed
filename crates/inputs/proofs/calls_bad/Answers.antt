-- The code's tests are the definition's.
use Rattle.inputs.specs.Samples.{calls_bad}
use Rattle.loops.proofs.Rules.{tests}
use Rattle.inputs.proofs.calls_bad.Goals as goal

pub returns-then-calls-gt-CALLED : goal.returns-then-calls-gt-CALLED
unfolding calls_bad
returns-then-calls-gt-CALLED c = search tests

pub returns : goal.returns
unfolding calls_bad
returns c = search tests
