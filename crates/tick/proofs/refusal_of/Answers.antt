-- The code's tests are the definition's, in its order.
use Rattle.tick.specs.Checks.{tick_refusal}
use Rattle.tick.proofs.refusal_of.Goals as goal

pub returns-then-spoilt : goal.returns-then-spoilt
unfolding tick_refusal
returns-then-spoilt c = rw (← c.spoilt.ensures, c.if-spoilt.true)

pub returns-then-spoilt-2 : goal.returns-then-spoilt-2
unfolding tick_refusal
returns-then-spoilt-2 c = rw (← c.spoilt.ensures, c.if-spoilt.false, ← c.shape_of-shape.ensures, ← c.spoilt-2.ensures, c.if-spoilt-2.true)

pub returns : goal.returns
unfolding tick_refusal
returns c = rw (← c.spoilt.ensures, c.if-spoilt.false, ← c.shape_of-shape.ensures, ← c.spoilt-2.ensures, c.if-spoilt-2.false) c.input_refusal.ensures
