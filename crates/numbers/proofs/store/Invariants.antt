-- The loop's invariant: storing what is left, from its place on, leaves what storing the whole leaves.
use lib.ListN.{length, drop}
use Rattle.numbers.specs.Words.{bytes}
use lib.Seq.{sets}
use Prim.Native.Nat.{◌≤◌, ◌+◌, ◌*◌}
use mathlib.Core.Path.{◌≡◌}
use Rattle.numbers.proofs.store.Given as goal

abbrev pub invariant-loop-i : goal.invariant-loop-i
invariant-loop-i l = (l.i ≤ length l.v) × (length l.dst ≡ length l.initial.dst) × (sets l.dst (l.at + l.i * 2) (bytes (drop l.i l.v)) ≡ sets l.initial.dst l.at (bytes l.v))
