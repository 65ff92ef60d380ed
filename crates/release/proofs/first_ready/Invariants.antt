-- The loop's invariant: what is left to look through answers as the whole does.
use Rattle.release.specs.Release.{ready_at}
use Rattle.turns.specs.Turn.{first_after}
use Prim.Native.Nat.{◌-◌}
use mathlib.Core.Path.{◌≡◌}
use Rattle.release.proofs.first_ready.Given as goal

abbrev pub invariant-loop-turn : goal.invariant-loop-turn
invariant-loop-turn l = first_after (ready_at l.t l.cycle l.demand l.s) l.t.lanes l.k (l.t.lanes - l._turn) ≡ first_after (ready_at l.t l.cycle l.demand l.s) l.t.lanes l.s.last l.t.lanes
