-- The code's tests are the definition's.
use Rattle.bypass.specs.Bypass.{begins_at}
use borrow.Author.Tests.{eq-eqb, ne_eqb}
use Rattle.bypass.proofs.begins.Goals as goal

pub returns-then-mark : goal.returns-then-mark
unfolding begins_at
returns-then-mark c = rw c.if-mark.true

pub returns-then-t-eq0 : goal.returns-then-t-eq0
unfolding begins_at
returns-then-t-eq0 c = rw (c.if-mark.false, eq-eqb _ _ c.if-t-eq0.true)

pub returns-then-call-ne-CALLED : goal.returns-then-call-ne-CALLED
unfolding begins_at
returns-then-call-ne-CALLED c = rw (c.if-mark.false, ne_eqb _ _ c.if-t-eq0.false, ne_eqb _ _ c.if-call-ne-CALLED.true)

pub returns : goal.returns
unfolding begins_at
returns c = rw (c.if-mark.false, ne_eqb _ _ c.if-t-eq0.false, eq-eqb _ _ c.if-call-ne-CALLED.false)
