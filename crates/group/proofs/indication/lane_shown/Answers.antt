-- The code's test is the definition's.
use Rattle.group.specs.Indications.{lane_shown}
use borrow.Author.Tests.{lt-ltb, le-ltb}
use Rattle.group.proofs.indication.lane_shown.Goals as goal

pub returns-then-n-i : goal.returns-then-n-i
unfolding lane_shown
returns-then-n-i c = rw (le-ltb _ _ c.if-n-i.true)

pub returns : goal.returns
unfolding lane_shown
returns c = rw (lt-ltb _ _ c.if-n-i.false, ← c.lane_at-lane.ensures) c.colour_shown.ensures
