-- The calls are those of the definition.
use Rattle.tick_diagnosis.specs.Numbers.{in_metered}
use Rattle.tick_diagnosis.proofs.number.in_metered.Goals as goal

pub returns : goal.returns
unfolding in_metered
returns c = cc
