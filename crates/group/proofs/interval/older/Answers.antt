-- One more, to the most that there is.
use Prim.Native.Nat.{◌+◌, min}
use mathlib.Core.Path.{◌≡◌, ◌∙◌}
use native.Mathlib.Omega.{arith}
use Rattle.loops.proofs.Cases.{one_more_to}
use Rattle.group.specs.Intervals.{age_of}
use Rattle.group.proofs.interval.older.Goals as goal

pub returns : goal.returns
unfolding age_of
returns c = let e : c.min.result ≡ min (c.args.age + 1) 36000 = omega arith in e ∙ one_more_to 36000 c.args.age
