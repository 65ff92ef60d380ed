-- The code's tests are the definition's.
use Rattle.period.specs.Range.{metered_spoilt}
use Rattle.loops.proofs.Rules.{tests}
use Rattle.period.proofs.range.metered_spoilt.Goals as goal

pub returns-then-ticks-passages : goal.returns-then-ticks-passages
unfolding metered_spoilt
returns-then-ticks-passages c = search tests

pub returns : goal.returns
unfolding metered_spoilt
returns c = search tests
