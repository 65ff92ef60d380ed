-- The loop's invariant: those counted, and those kept of the entries left, are as many as are kept of all.
use Rattle.joining.specs.Joining.{entries_from, kept}
use Prim.Native.Nat.{◌+◌, ◌≤◌, ◌-◌}
use mathlib.Core.Path.{◌≡◌}
use lib.ListN.{length}
use Rattle.joining.proofs.remaining.Given as goal

abbrev pub invariant-loop-i : goal.invariant-loop-i
invariant-loop-i l =
    (l.many ≤ l.i)
    × (l.many + length (kept (entries_from l.first.rows l.i (l.first.count - l.i)) (entries_from l.fn.second.rows 0 l.fn.second.count)) ≡ length (kept (entries_from l.first.rows 0 l.first.count) (entries_from l.fn.second.rows 0 l.fn.second.count)))
