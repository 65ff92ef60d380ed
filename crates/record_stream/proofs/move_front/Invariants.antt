-- The loop's invariant: the bytes before i are those from `from` on, and those from i on are as they were.
use Prim.Native.Nat.{◌-◌, ◌≤◌}
use mathlib.Core.Path.{◌≡◌}
use lib.ListN.{length, take, drop}
use Rattle.record_stream.proofs.move_front.Given as goal

abbrev pub invariant-loop-i : goal.invariant-loop-i
invariant-loop-i l =
    (l.i ≤ l.to - l.from) × (length l.buffer ≡ length l.initial.buffer) × (take l.i l.buffer ≡ take l.i (drop l.from l.initial.buffer)) × (drop l.i l.buffer ≡ drop l.i l.initial.buffer)
