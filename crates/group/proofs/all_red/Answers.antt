-- The closure says of each lane whether it is one.
use Prim.Native.Nat.{ℕ}
use lib.Dec.{eqb}
use Rattle.lanes.specs.Lanes.{lane_of}
use mathlib.Core.Path.{refl, ap}
use mathlib.Core.Bool.{not}
use borrow.Author.Rules.{rules}
use Rattle.loops.proofs.RangeLaws.{any_in_range}
use Rattle.group.specs.Group.{all_red}
use Rattle.group.proofs.all_red.Goals as goal

pub returns : goal.returns
unfolding all_red
returns c = ap not (any_in_range (λ (i : ℕ). not (eqb (lane_of c.args.s i).colour 1)) c.args.n _ _ _ c.any.ensures.ran refl (λ x b q k. search rules))
