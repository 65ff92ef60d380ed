-- The closure says of each lane whether a sample of it is out of range.
use mathlib.Core.Path.{refl}
use borrow.Author.Rules.{rules}
use Rattle.loops.proofs.RangeLaws.{any_in_range}
use Rattle.inputs.proofs.any_lane_bad.Goals as goal

pub returns : goal.returns
returns c = any_in_range _ _ _ _ _ c.any.ensures.ran refl (λ x b q k. search rules)
