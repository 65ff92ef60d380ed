-- The test is the definition's.
use mathlib.Core.Path.{refl}
use Rattle.period.specs.Counts.{good_of}
use Rattle.period.proofs.is_good.Goals as goal

pub returns : goal.returns
unfolding good_of
returns c = refl
