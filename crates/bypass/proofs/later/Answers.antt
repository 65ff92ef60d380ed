-- One more, to the most that there is.
use Prim.Native.Nat.{◌+◌, min}
use mathlib.Core.Path.{◌≡◌, ◌∙◌}
use native.Mathlib.Omega.{arith}
use Rattle.loops.proofs.Cases.{one_more_to}
use Rattle.bypass.specs.Bypass.{later_of}
use Rattle.bypass.proofs.later.Goals as goal

pub returns : goal.returns
unfolding later_of
returns c = let e : c.min.result ≡ min (c.args.timer + 1) 2550 = omega arith in e ∙ one_more_to 2550 c.args.timer
