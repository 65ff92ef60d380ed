-- The calls are those of the definition.
use Rattle.tick_diagnosis.specs.Numbers.{first_bad}
use Rattle.tick_diagnosis.proofs.number.first_bad.Goals as goal

pub returns : goal.returns
unfolding first_bad
returns c = cc
