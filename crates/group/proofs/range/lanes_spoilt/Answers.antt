-- The code's tests are the definition's.
use Rattle.group.specs.Range.{lanes_spoilt}
use Rattle.loops.proofs.Rules.{tests}
use Rattle.group.proofs.range.lanes_spoilt.Goals as goal

pub returns-then-s-gt-LONGEST : goal.returns-then-s-gt-LONGEST
unfolding lanes_spoilt
returns-then-s-gt-LONGEST c = search tests

pub returns-then-s-lt1 : goal.returns-then-s-lt1
unfolding lanes_spoilt
returns-then-s-lt1 c = search tests

pub returns-then-n-s : goal.returns-then-n-s
unfolding lanes_spoilt
returns-then-n-s c = search tests

pub returns : goal.returns
unfolding lanes_spoilt
returns c = search (tests, c.any_lane_spoilt.ensures)
