-- The code's tests are the promise's.
use Rattle.loops.proofs.Rules.{tests}
use Rattle.group.proofs.range.no_colour.Goals as goal

pub returns-then-colour-lt-RED : goal.returns-then-colour-lt-RED
returns-then-colour-lt-RED c = search tests

pub returns : goal.returns
returns c = search tests
