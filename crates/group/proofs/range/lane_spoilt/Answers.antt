-- The code's tests are the definition's.
use Rattle.group.specs.Range.{lane_spoilt}
use Rattle.loops.proofs.Rules.{tests}
use Rattle.group.proofs.range.lane_spoilt.Goals as goal

pub returns-then-l-gt-LONGEST : goal.returns-then-l-gt-LONGEST
unfolding lane_spoilt
returns-then-l-gt-LONGEST c = search tests

pub returns-then-l-gt-LONGEST-2 : goal.returns-then-l-gt-LONGEST-2
unfolding lane_spoilt
returns-then-l-gt-LONGEST-2 c = search tests

pub returns-then-l-gt-MOST_PASSAGES : goal.returns-then-l-gt-MOST_PASSAGES
unfolding lane_spoilt
returns-then-l-gt-MOST_PASSAGES c = search tests

pub returns : goal.returns
unfolding lane_spoilt
returns c = search (tests, c.colour_spoilt.ensures)
