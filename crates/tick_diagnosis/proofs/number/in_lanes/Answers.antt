-- The calls are those of the definition.
use Rattle.tick_diagnosis.specs.Numbers.{in_lanes}
use Rattle.tick_diagnosis.proofs.number.in_lanes.Goals as goal

pub returns : goal.returns
unfolding in_lanes
returns c = cc
