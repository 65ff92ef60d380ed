-- The definition's own fields.
use mathlib.Core.Path.{refl}
use Rattle.many_ticks.specs.Many.{ran_of}
use Rattle.many_ticks.proofs.stopped.Goals as goal

pub returns : goal.returns
unfolding ran_of
returns c = refl
