-- The record is the definition's.
use Rattle.tick_line.specs.Scan.{line_start}
use mathlib.Core.Path.{refl}
use Rattle.tick_line.proofs.scan.line_start.Goals as goal

pub returns : goal.returns
unfolding line_start
returns c = refl
