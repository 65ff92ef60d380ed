-- The closure says of each lane whether it is one.
use mathlib.Core.Path.{refl}
use borrow.Author.Rules.{rules}
use Rattle.loops.proofs.RangeLaws.{any_in_range}
use Rattle.lane_speeds.specs.Speeds.{lane_speeds_spoilt, speeds_spoilt}
use Rattle.lane_speeds.proofs.range.spoilt.Goals as goal

pub returns : goal.returns
unfolding speeds_spoilt
returns c = any_in_range (lane_speeds_spoilt c.args.k c.args.m) 6 _ _ _ c.any.ensures.ran refl (λ x b q k. search rules)
