-- The code's test is the definition's.
use Rattle.period.specs.Counting.{lane_counted_at}
use borrow.Author.Tests.{lt-ltb, le-ltb}
use Rattle.period.proofs.count.lane_counted_at.Goals as goal

pub returns-then-m-j : goal.returns-then-m-j
unfolding lane_counted_at
returns-then-m-j c = rw (le-ltb _ _ c.if-m-j.true) c.lane_counts-lane.ensures

pub returns : goal.returns
unfolding lane_counted_at
returns c = rw (lt-ltb _ _ c.if-m-j.false, ← c.lane_counts-lane.ensures, ← c.lane_sample.ensures) c.lane_counted.ensures
