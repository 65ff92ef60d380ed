-- The code's tests are the definition's.
use Rattle.bypass.specs.Bypass.{ends_at}
use borrow.Author.Tests.{eq-eqb, ne_eqb}
use Rattle.bypass.proofs.ends.Goals as goal

pub returns-then-passed : goal.returns-then-passed
unfolding ends_at
returns-then-passed c = rw c.if-passed.true

pub returns-then-call-ne-CALLED : goal.returns-then-call-ne-CALLED
unfolding ends_at
returns-then-call-ne-CALLED c = rw (c.if-passed.false, ne_eqb _ _ c.if-call-ne-CALLED.true)

pub returns-then-is_time_up : goal.returns-then-is_time_up
unfolding ends_at
returns-then-is_time_up c = rw (c.if-passed.false, eq-eqb _ _ c.if-call-ne-CALLED.false, ← c.later.ensures, ← c.is_time_up.ensures, c.if-is_time_up.true)

pub returns : goal.returns
unfolding ends_at
returns c = rw (c.if-passed.false, eq-eqb _ _ c.if-call-ne-CALLED.false, ← c.later.ensures, ← c.is_time_up.ensures, c.if-is_time_up.false)
