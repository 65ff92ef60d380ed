-- The code's tests are the definition's.
use Rattle.period.specs.Range.{last_ticks}
use Rattle.loops.proofs.Rules.{tests}
use Rattle.period.proofs.range.last_ticks.Goals as goal

pub returns-then-serial-eq0 : goal.returns-then-serial-eq0
unfolding last_ticks
returns-then-serial-eq0 c = search tests

pub returns-else-serial-eq0 : goal.returns-else-serial-eq0
unfolding last_ticks
returns-else-serial-eq0 c = search tests
