-- By computation.
use mathlib.Core.Path.{refl}
use Rattle.desk.specs.Tick.{again_of}
use Rattle.desk.proofs.again.Goals as goal

pub returns : goal.returns
unfolding again_of
returns c = refl
