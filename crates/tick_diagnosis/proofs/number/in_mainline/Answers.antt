-- The calls are those of the definition.
use Rattle.tick_diagnosis.specs.Numbers.{in_mainline}
use Rattle.tick_diagnosis.proofs.number.in_mainline.Goals as goal

pub returns : goal.returns
unfolding in_mainline
returns c = cc
