-- What is held stands in the buffer.
use Rattle.std.proofs.Common.{◌≤◌, length}
use Rattle.simulate_file.proofs.run_all.Given as goal

abbrev pub invariant-loop : goal.invariant-loop
invariant-loop g l = l.run.held ≤ length l.buffer
