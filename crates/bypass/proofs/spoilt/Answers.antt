-- The code's tests are the definition's.
use Rattle.bypass.specs.Range.{bypass_spoilt}
use borrow.Author.Tests.{lt-ltb, le-ltb, eq-eqb, ne_eqb}
use Rattle.bypass.proofs.spoilt.Goals as goal

pub returns-then-priority-eq0 : goal.returns-then-priority-eq0
unfolding bypass_spoilt
returns-then-priority-eq0 c = rw (c.if-b.true, eq-eqb _ _ c.if-priority-eq0.true)

pub returns-then-b-gt-LONGEST_TIMER : goal.returns-then-b-gt-LONGEST_TIMER
unfolding bypass_spoilt
returns-then-b-gt-LONGEST_TIMER c = rw (c.if-b.true, ne_eqb _ _ c.if-priority-eq0.false, lt-ltb _ _ c.if-b-gt-LONGEST_TIMER.true)

pub returns-then-b : goal.returns-then-b
unfolding bypass_spoilt
returns-then-b c = rw (c.if-b.true, ne_eqb _ _ c.if-priority-eq0.false, le-ltb _ _ c.if-b-gt-LONGEST_TIMER.false)

pub returns : goal.returns
unfolding bypass_spoilt
returns c = rw c.if-b.false
