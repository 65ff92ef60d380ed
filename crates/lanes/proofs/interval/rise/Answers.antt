-- One more, to the most that there is.
use Prim.Native.Nat.{◌+◌, min}
use mathlib.Core.Path.{◌≡◌, ◌∙◌}
use native.Mathlib.Omega.{arith}
use Rattle.loops.proofs.Cases.{one_more_to}
use Rattle.lanes.specs.Intervals.{rise_of}
use Rattle.lanes.proofs.interval.rise.Goals as goal

pub returns : goal.returns
unfolding rise_of
returns c = let e : c.min.result ≡ min (c.args.x + 1) 720 = omega arith in e ∙ one_more_to 720 c.args.x
