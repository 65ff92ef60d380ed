-- The code's test is the definition's.
use Rattle.group.specs.Range.{lane_spoilt_at}
use borrow.Author.Tests.{lt-ltb, le-ltb}
use Rattle.group.proofs.range.lane_spoilt_at.Goals as goal

pub returns-then-i-n : goal.returns-then-i-n
unfolding lane_spoilt_at
returns-then-i-n c = rw (lt-ltb _ _ c.if-i-n.true, ← c.lane_at-lane.ensures) c.lane_spoilt.ensures

pub returns : goal.returns
unfolding lane_spoilt_at
returns c = rw (le-ltb _ _ c.if-i-n.false, ← c.lane_at-lane.ensures) c.lane_kept.ensures
