-- The loop ends with the last tick.
use Rattle.call_cases.proofs.run.run_ticks.Given as goal

abbrev pub invariant-loop-done : goal.invariant-loop-done
invariant-loop-done l = Unit {0}
