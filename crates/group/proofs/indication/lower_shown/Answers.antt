-- The code's tests are the definition's.
use Rattle.group.specs.Indications.{lower_shown}
use Rattle.loops.proofs.Rules.{tests}
use Rattle.group.proofs.indication.lower_shown.Goals as goal

pub returns-then-colour-eq-YELLOW : goal.returns-then-colour-eq-YELLOW
unfolding lower_shown
returns-then-colour-eq-YELLOW c = search tests

pub returns-then-colour-eq-GREEN : goal.returns-then-colour-eq-GREEN
unfolding lower_shown
returns-then-colour-eq-GREEN c = search tests

pub returns : goal.returns
unfolding lower_shown
returns c = search tests
