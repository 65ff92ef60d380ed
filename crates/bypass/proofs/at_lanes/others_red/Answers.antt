-- The closure says of each lane whether it is one.
use mathlib.Core.Path.{refl, ap}
use mathlib.Core.Bool.{not}
use borrow.Author.Rules.{rules}
use Rattle.loops.proofs.RangeLaws.{any_in_range}
use Rattle.bypass.specs.Lanes.{other_not_red, others_red}
use Rattle.bypass.proofs.at_lanes.others_red.Goals as goal

pub returns : goal.returns
unfolding others_red
returns c = ap not (any_in_range (other_not_red c.args.t c.args.s) c.args.t.lanes _ _ _ c.any.ensures.ran refl (λ x b q k. search rules))
