-- The code's test is the definition's.
use Rattle.period.specs.Range.{lane_spoilt_at}
use borrow.Author.Tests.{lt-ltb, le-ltb}
use Rattle.period.proofs.range.lane_spoilt_at.Goals as goal

pub returns-then-j-m : goal.returns-then-j-m
unfolding lane_spoilt_at
returns-then-j-m c = rw (lt-ltb _ _ c.if-j-m.true, ← c.lane_counts-lane.ensures) c.lane_spoilt.ensures

pub returns : goal.returns
unfolding lane_spoilt_at
returns c = rw (le-ltb _ _ c.if-j-m.false, ← c.lane_counts-lane.ensures) c.lane_kept.ensures
