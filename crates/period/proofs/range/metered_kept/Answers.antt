-- The code's tests are the definition's.
use Rattle.period.specs.Range.{metered_kept}
use Rattle.loops.proofs.Rules.{tests}
use Rattle.period.proofs.range.metered_kept.Goals as goal

pub returns-then-passages-gt0 : goal.returns-then-passages-gt0
unfolding metered_kept
returns-then-passages-gt0 c = search tests

pub returns : goal.returns
unfolding metered_kept
returns c = search tests
