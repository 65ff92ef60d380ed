-- The code's tests are the definition's.
use Rattle.bypass.specs.Lanes.{endings_of}
use Rattle.bypass.proofs.at_lanes.endings.Goals as goal

pub returns-then-now : goal.returns-then-now
unfolding endings_of
returns-then-now c = rw c.if-now.true

pub returns-then-was : goal.returns-then-was
unfolding endings_of
returns-then-was c = rw (c.if-now.false, c.if-was.true)

pub returns : goal.returns
unfolding endings_of
returns c = rw (c.if-now.false, c.if-was.false)
