-- The code's tests are the definition's.
use Rattle.group.specs.Range.{group_spoilt}
use Rattle.loops.proofs.Rules.{tests}
use borrow.Author.Tests.{le-ltb}
use Rattle.group.proofs.range.group_spoilt.Goals as goal

pub returns-then-g-gt-SHUTDOWN_RED : goal.returns-then-g-gt-SHUTDOWN_RED
unfolding group_spoilt
returns-then-g-gt-SHUTDOWN_RED c = search tests

pub returns-then-g-gt-OLDEST : goal.returns-then-g-gt-OLDEST
unfolding group_spoilt
returns-then-g-gt-OLDEST c = search tests

pub returns-then-lanes_spoilt : goal.returns-then-lanes_spoilt
unfolding group_spoilt
returns-then-lanes_spoilt c = rw (le-ltb _ _ c.if-g-gt-SHUTDOWN_RED.false, le-ltb _ _ c.if-g-gt-OLDEST.false, ← c.lanes_spoilt.ensures, c.if-lanes_spoilt.true)

pub returns : goal.returns
unfolding group_spoilt
returns c = rw (le-ltb _ _ c.if-g-gt-SHUTDOWN_RED.false, le-ltb _ _ c.if-g-gt-OLDEST.false, ← c.lanes_spoilt.ensures, c.if-lanes_spoilt.false) c.spoilt.ensures
