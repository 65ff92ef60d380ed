-- The greatest number of tenths is from `lo` to below `hi`, and each test halves what lies between.
use Prim.Native.Nat.{◌-◌, ◌≤◌, ◌<◌}
use Rattle.speed.specs.Tenths.{tenths_of}
use Rattle.speed.proofs.tenth.tenths.Given as goal

abbrev pub invariant-loop-hi : goal.invariant-loop-hi
invariant-loop-hi l = (l.lo ≤ tenths_of l.x) × ((tenths_of l.x < l.hi) × (l.hi ≤ 219601))

abbrev pub decreases-loop-hi : goal.decreases-loop-hi
decreases-loop-hi l = l.hi - l.lo
