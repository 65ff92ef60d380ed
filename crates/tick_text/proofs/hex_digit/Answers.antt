-- The code's tests are the definition's.
use Rattle.loops.proofs.Rules.{tests}
use Rattle.tick_text.specs.Lines.{hex_digit}
use Rattle.tick_text.proofs.hex_digit.Goals as goal

pub returns-then-n-lt10 : goal.returns-then-n-lt10
unfolding hex_digit
returns-then-n-lt10 c = search tests

pub returns-else-n-lt10 : goal.returns-else-n-lt10
unfolding hex_digit
returns-else-n-lt10 c = search tests
