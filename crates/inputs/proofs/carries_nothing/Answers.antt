-- The code's two tests are the definition's.
use Rattle.inputs.specs.Commands.{carries_nothing}
use Rattle.loops.proofs.Rules.{tests}
use Rattle.inputs.proofs.carries_nothing.Goals as goal

pub returns-then-c-ne0 : goal.returns-then-c-ne0
unfolding carries_nothing
returns-then-c-ne0 c = search tests

pub returns : goal.returns
unfolding carries_nothing
returns c = search tests
