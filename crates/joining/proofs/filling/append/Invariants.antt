-- The loop's invariant: with the entries left behind it, the list come to is the whole.
use Rattle.joining.specs.Joining.{entries_from}
use Rattle.joining.specs.Filling.{with_all}
use Prim.Native.Nat.{◌+◌, ◌-◌}
use mathlib.Core.Path.{◌≡◌}
use Rattle.joining.proofs.filling.append.Given as goal

abbrev pub invariant-loop-i : goal.invariant-loop-i
invariant-loop-i l =
    (l.longer.count ≡ l.initial.longer.count + l.i)
    × (with_all l.longer (entries_from l.more.rows l.i (l.more.count - l.i)) ≡ with_all l.initial.longer (entries_from l.more.rows 0 l.more.count))
