-- The record is the definition's.
use mathlib.Core.Path.{refl}
use Rattle.replay_lines.specs.Replay.{with_scan}
use Rattle.replay_lines.proofs.run.with_scan.Goals as goal

pub returns : goal.returns
unfolding with_scan
returns c = refl
