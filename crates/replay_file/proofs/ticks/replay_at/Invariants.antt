-- The output keeps its room.
use Prim.Native.Nat.{◌≤◌}
use lib.ListN.{length}
use Rattle.replay_lines.specs.Replay.{longest_answer}
use Rattle.replay_file.proofs.ticks.replay_at.Given as goal

abbrev pub invariant-loop : goal.invariant-loop
invariant-loop g l = longest_answer ≤ length l.out
