-- The calls are those of the definition.
use Rattle.tick_diagnosis.specs.Numbers.{in_command}
use Rattle.tick_diagnosis.proofs.number.in_command.Goals as goal

pub returns : goal.returns
unfolding in_command
returns c = cc
