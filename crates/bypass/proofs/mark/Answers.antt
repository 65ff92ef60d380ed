-- The code's tests are the definition's.
use Rattle.bypass.specs.Bypass.{mark_of}
use Rattle.bypass.proofs.mark.Goals as goal

pub returns-then-b : goal.returns-then-b
unfolding mark_of
returns-then-b c = rw (c.if-on.true, c.if-b.true)

pub returns-then-b-2 : goal.returns-then-b-2
unfolding mark_of
returns-then-b-2 c = rw (c.if-on.true, c.if-b.false, c.if-b-2.true)

pub returns-then-on : goal.returns-then-on
unfolding mark_of
returns-then-on c = rw (c.if-on.true, c.if-b.false, c.if-b-2.false)

pub returns : goal.returns
unfolding mark_of
returns c = rw c.if-on.false
