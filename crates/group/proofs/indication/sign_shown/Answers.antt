-- The code's tests are the definition's.
use Rattle.group.specs.Indications.{sign_shown}
use Rattle.loops.proofs.Rules.{tests}
use Rattle.group.proofs.indication.sign_shown.Goals as goal

pub returns-then-interval-lt-WARNING : goal.returns-then-interval-lt-WARNING
unfolding sign_shown
returns-then-interval-lt-WARNING c = search tests

pub returns-else-interval-lt-WARNING : goal.returns-else-interval-lt-WARNING
unfolding sign_shown
returns-else-interval-lt-WARNING c = search tests
