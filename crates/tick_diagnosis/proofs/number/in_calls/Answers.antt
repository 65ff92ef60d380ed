-- The calls are those of the definition.
use Rattle.tick_diagnosis.specs.Numbers.{in_calls}
use Rattle.tick_diagnosis.proofs.number.in_calls.Goals as goal

pub returns : goal.returns
unfolding in_calls
returns c = cc
