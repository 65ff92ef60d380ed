-- The loop's invariant: what is left to take, from the present run on, gives what all gives.
use Prim.Native.Nat.{◌-◌, ◌≤◌}
use mathlib.Core.Path.{◌≡◌}
use lib.ListN.{length, drop}
use Rattle.replay_lines.specs.Replay.{run_after}
use Rattle.replay_file.proofs.ticks.take_all.Given as goal

abbrev pub invariant-loop-from : goal.invariant-loop-from
invariant-loop-from g l = (l.from ≤ length l.bytes) × (length l.out ≡ length l.initial.out) × (run_after l.site (drop l.from l.bytes) l.run ≡ run_after l.site l.bytes l.initial.run)

abbrev pub decreases-loop-from : goal.decreases-loop-from
decreases-loop-from g l = length l.bytes - l.from
