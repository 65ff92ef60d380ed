-- The record is the definition's.
use mathlib.Core.Path.{refl}
use Rattle.tick_line.specs.Scan.{with_return}
use Rattle.tick_line.proofs.scan.with_return.Goals as goal

pub returns : goal.returns
unfolding with_return
returns c = refl
