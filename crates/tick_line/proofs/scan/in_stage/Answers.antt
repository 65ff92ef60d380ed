-- The record is the definition's.
use mathlib.Core.Path.{refl}
use Rattle.tick_line.specs.Scan.{in_stage}
use Rattle.tick_line.proofs.scan.in_stage.Goals as goal

pub returns : goal.returns
unfolding in_stage
returns c = refl
