-- The code's test is the definition's.
use Rattle.lanes.specs.Lanes.{lane_tick_at}
use borrow.Author.Tests.{lt-ltb, le-ltb}
use Rattle.lanes.proofs.tick_at.Goals as goal

pub returns-then-t-i : goal.returns-then-t-i
unfolding lane_tick_at
returns-then-t-i c = λ s is. rw (le-ltb _ _ c.if-t-i.true) is

pub returns : goal.returns
unfolding lane_tick_at
returns c = λ s is. rw (lt-ltb _ _ c.if-t-i.false, ← c.ending_of-ending.ensures, ← is) c.lane_tick.ensures
