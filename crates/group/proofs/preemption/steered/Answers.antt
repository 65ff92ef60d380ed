-- The code's test is the definition's.
use Rattle.group.specs.Preemption.{steered_wish}
use borrow.Author.Tests.{eq-eqb, ne_eqb}
use Rattle.group.proofs.preemption.steered.Goals as goal

pub returns-then-preemption-eq-CALLED : goal.returns-then-preemption-eq-CALLED
unfolding steered_wish
returns-then-preemption-eq-CALLED c = rw (eq-eqb _ _ c.if-preemption-eq-CALLED.true)

pub returns : goal.returns
unfolding steered_wish
returns c = rw (ne_eqb _ _ c.if-preemption-eq-CALLED.false)
