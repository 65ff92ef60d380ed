-- The code's tests are the definition's.
use Rattle.period.specs.Range.{lane_spoilt}
use Rattle.loops.proofs.Rules.{tests}
use Rattle.period.proofs.range.lane_spoilt.Goals as goal

pub returns-then-ticks-c : goal.returns-then-ticks-c
unfolding lane_spoilt
returns-then-ticks-c c = search tests

pub returns-then-ticks-c-2 : goal.returns-then-ticks-c-2
unfolding lane_spoilt
returns-then-ticks-c-2 c = search tests

pub returns-then-ticks-c-3 : goal.returns-then-ticks-c-3
unfolding lane_spoilt
returns-then-ticks-c-3 c = search tests

pub returns-then-c : goal.returns-then-c
unfolding lane_spoilt
returns-then-c c = search tests

pub returns-then-c-2 : goal.returns-then-c-2
unfolding lane_spoilt
returns-then-c-2 c = search tests

pub returns : goal.returns
unfolding lane_spoilt
returns c = search tests
