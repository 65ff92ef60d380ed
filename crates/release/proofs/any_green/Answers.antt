-- The closure says of each lane whether it is one.
use Prim.Native.Nat.{ℕ}
use lib.Dec.{eqb}
use Rattle.lanes.specs.Lanes.{lane_of}
use mathlib.Core.Path.{refl}
use borrow.Author.Rules.{rules}
use Rattle.loops.proofs.RangeLaws.{any_in_range}
use Rattle.release.specs.Release.{any_green}
use Rattle.release.proofs.any_green.Goals as goal

pub returns : goal.returns
unfolding any_green
returns c = any_in_range (λ (i : ℕ). eqb (lane_of c.args.s i).colour 3) c.args.n _ _ _ c.any.ensures.ran refl (λ x b q k. search rules)
