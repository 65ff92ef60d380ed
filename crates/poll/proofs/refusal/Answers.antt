-- The checks in their order, each by the call or the test that makes it.
use borrow.Author.Tests.{eq-eqb, ne_eqb}
use Rattle.poll.specs.Poll.{refusal_of}
use Rattle.poll.proofs.refusal.Goals as goal

pub returns-then-spoilt : goal.returns-then-spoilt
unfolding refusal_of
returns-then-spoilt c = rw (← c.spoilt.ensures, c.if-spoilt.true)

pub returns-then-spoilt-2 : goal.returns-then-spoilt-2
unfolding refusal_of
returns-then-spoilt-2 c = rw (← c.spoilt.ensures, c.if-spoilt.false, ← c.shape_of.ensures, ← c.spoilt-2.ensures, c.if-spoilt-2.true)

pub returns-then-state-eq0 : goal.returns-then-state-eq0
unfolding refusal_of
returns-then-state-eq0 c =
    rw (← c.spoilt.ensures, c.if-spoilt.false, ← c.shape_of.ensures, ← c.spoilt-2.ensures, c.if-spoilt-2.false, eq-eqb _ _ c.if-state-eq0.true)

pub returns : goal.returns
unfolding refusal_of
returns c =
    rw (← c.spoilt.ensures, c.if-spoilt.false, ← c.shape_of.ensures, ← c.spoilt-2.ensures, c.if-spoilt-2.false, ne_eqb _ _ c.if-state-eq0.false)
