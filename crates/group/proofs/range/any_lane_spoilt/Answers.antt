-- The closure says of each lane whether it is one.
use mathlib.Core.Path.{refl}
use borrow.Author.Rules.{rules}
use Rattle.loops.proofs.RangeLaws.{any_in_range}
use Rattle.group.specs.Range.{lane_spoilt_at}
use Rattle.group.proofs.range.any_lane_spoilt.Goals as goal

pub returns : goal.returns
returns c = any_in_range (lane_spoilt_at c.args.interval c.args.s c.args.n) 4 _ _ _ c.any.ensures.ran refl (λ x b q k. search rules)
