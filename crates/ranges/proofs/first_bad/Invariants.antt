-- The loop's invariant: what is left to look through has the same first bad number as the whole.
use Rattle.ranges.specs.Sections.{first_bad}
use lib.ListN.{length}
use Prim.Native.Nat.{◌-◌}
use mathlib.Core.Path.{◌≡◌}
use Rattle.ranges.proofs.first_bad.Given as goal

abbrev pub invariant-loop-i : goal.invariant-loop-i
invariant-loop-i l = first_bad l.section l.v l.i (length l.v - l.i) ≡ first_bad l.section l.v 0 (length l.v)
