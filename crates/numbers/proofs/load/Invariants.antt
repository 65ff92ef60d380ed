-- The loop's invariant: the front of dst that was filled is the front of the numbers from `at` on.
use lib.ListN.{length, take, drop}
use mathlib.Core.Path.{◌≡◌}
use Prim.Native.Nat.{◌≤◌}
use Rattle.numbers.specs.Words.{words}
use Rattle.numbers.proofs.load.Given as goal

abbrev pub invariant-loop-i : goal.invariant-loop-i
invariant-loop-i l = (l.i ≤ length l.initial.dst) × (length l.dst ≡ length l.initial.dst) × (take l.i l.dst ≡ take l.i (drop l.at (words l.s)))
