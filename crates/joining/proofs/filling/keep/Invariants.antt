-- The loop's invariant: with the entries left that are kept behind it, the list come to is the whole.
use Rattle.joining.specs.Joining.{entries_from, kept, list_of}
use Rattle.joining.specs.Filling.{with_all}
use Prim.Native.Nat.{◌≤◌, ◌-◌}
use mathlib.Core.List.{[]}
use mathlib.Core.Path.{◌≡◌}
use Rattle.joining.proofs.filling.keep.Given as goal

abbrev pub invariant-loop-i : goal.invariant-loop-i
invariant-loop-i l =
    (l.list.count ≤ l.i)
    × (with_all l.list (kept (entries_from l.first.rows l.i (l.first.count - l.i)) (entries_from l.fn.second.rows 0 l.fn.second.count)) ≡ with_all (list_of []) (kept (entries_from l.first.rows 0 l.first.count) (entries_from l.fn.second.rows 0 l.fn.second.count)))
