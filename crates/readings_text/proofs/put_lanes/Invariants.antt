-- The loop's invariant: whatever puts the text of the lanes that are left puts that of all.
use Rattle.readings_text.specs.Line.{lanes_text}
use Rattle.text.proofs.PutsLaws.{Left}
use Prim.Native.Nat.{◌≤◌, ◌-◌}
use Rattle.readings_text.proofs.put_lanes.Given as goal

abbrev pub invariant-loop-j : goal.invariant-loop-j
invariant-loop-j l =
    (l.j ≤ l.m)
    × Left l.initial.out l.out (lanes_text l.readings l.j (l.m - l.j)) (lanes_text l.readings 0 l.m)
