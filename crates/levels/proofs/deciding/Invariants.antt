-- The loop's invariant: the levels left answer as all do.
use Rattle.levels.specs.Levels.{deciding_of}
use mathlib.Core.Path.{◌≡◌}
use Rattle.levels.proofs.deciding.Given as goal

abbrev pub invariant-loop-i : goal.invariant-loop-i
invariant-loop-i l =
    deciding_of l.levels.numbers.now l.i l.table l.q ≡ deciding_of l.levels.numbers.now l.levels.count l.table l.q
