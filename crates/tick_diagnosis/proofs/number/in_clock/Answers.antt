-- The calls are those of the definition.
use Rattle.tick_diagnosis.specs.Numbers.{in_clock}
use Rattle.tick_diagnosis.proofs.number.in_clock.Goals as goal

pub returns : goal.returns
unfolding in_clock
returns c = cc
