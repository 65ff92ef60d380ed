-- The code's tests are the definition's; pre-metering dark and green are the intervals from 1 to 2.
use Rattle.group.specs.Preemption.{is_held}
use Rattle.group.proofs.PreemptionLaws.{not_pre_metering, from_dark_to_green}
use borrow.Author.Tests.{eq-eqb, ne_eqb}
use Rattle.group.proofs.preemption.held.Goals as goal

pub returns-then-preemption-ne-CALLED : goal.returns-then-preemption-ne-CALLED
unfolding is_held
returns-then-preemption-ne-CALLED c = rw (ne_eqb _ _ c.if-preemption-ne-CALLED.true)

pub returns-then-interval-lt-DARK : goal.returns-then-interval-lt-DARK
unfolding is_held
returns-then-interval-lt-DARK c = rw (eq-eqb _ _ c.if-preemption-ne-CALLED.false, not_pre_metering _ c.if-interval-lt-DARK.true)

pub returns : goal.returns
unfolding is_held
returns c = rw (eq-eqb _ _ c.if-preemption-ne-CALLED.false) (from_dark_to_green _ c.if-interval-lt-DARK.false)
