-- The loop's invariant: the run and the output are those of the bytes so far, the output lies within the buffer, and no line has been no
-- tick.
use Prim.Native.Nat.{◌-◌, ◌≤◌}
use mathlib.Core.Path.{◌≡◌}
use mathlib.Core.Bool.{false}
use lib.ListN.{length}
use Rattle.replay_lines.specs.Replay.{with_scan}
use Rattle.replay_lines.proofs.ReplayLaws.{Reached}
use Rattle.replay_lines.proofs.run.take.Given as goal

abbrev pub invariant-loop-at : goal.invariant-loop-at
invariant-loop-at l =
    (l.at ≤ length l.bytes)
    × (l.run.ended ≡ false)
    × (length l.out ≡ length l.initial.out)
    × (l.at ≡ 0 → l.end ≡ 0)
    × Reached l.site l.initial.run l.bytes l.initial.out l.at (with_scan l.run l.scan l.begun) l.end l.out
    × (l.end ≤ length l.initial.out)

abbrev pub decreases-loop-at : goal.decreases-loop-at
decreases-loop-at l = length l.bytes - l.at
