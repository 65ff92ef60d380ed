-- The code's tests are the definition's.
use Rattle.bypass.specs.Bypass.{is_time_up}
use Rattle.loops.proofs.Rules.{tests}
use Rattle.bypass.proofs.is_time_up.Goals as goal

pub returns-then-timeout-eq0 : goal.returns-then-timeout-eq0
unfolding is_time_up
returns-then-timeout-eq0 c = search tests

pub returns : goal.returns
unfolding is_time_up
returns c = search tests
