-- The loop's invariant: each sum is that over the lanes so far.
use Rattle.levels.proofs.SumLaws.{Sum}
use Rattle.period.specs.declared.LaneCounts.{LaneCounts}
use Prim.Native.Nat.{◌≤◌}
use Rattle.levels.proofs.measure.lane_totals.Given as goal

abbrev pub invariant-loop-j : goal.invariant-loop-j
invariant-loop-j l =
    (l.j ≤ l.m)
    × Sum l.c (λ (l : LaneCounts). 1) 1 l.j l.lanes
    × Sum l.c (λ (l : LaneCounts). l.vehicles) 65535 l.j l.vehicles
    × Sum l.c (λ (l : LaneCounts). l.occupied) 65535 l.j l.occupied
    × Sum l.c (λ (l : LaneCounts). l.timed) 65535 l.j l.timed
    × Sum l.c (λ (l : LaneCounts). l.millis) 4294967295 l.j l.millis
