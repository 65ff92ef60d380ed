-- The loop's invariant: what is left to look through answers as the whole does.
use Rattle.desk.specs.Desk.{has_place}
use Rattle.turns.specs.Turn.{first_after}
use Prim.Native.Nat.{◌-◌, ◌≤◌}
use mathlib.Core.Path.{◌≡◌}
use Rattle.desk.proofs.first_after.Given as goal

abbrev pub invariant-loop : goal.invariant-loop
invariant-loop l = (l.counter ≤ 32) × (first_after (has_place l.d) 32 l.k (32 - l.counter) ≡ first_after (has_place l.d) 32 l.place 32)
