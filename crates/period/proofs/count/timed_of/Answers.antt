-- The code's test is the definition's.
use Rattle.period.specs.Counting.{timed_of}
use borrow.Author.Tests.{eq-eqb, ne_eqb}
use Rattle.period.proofs.count.timed_of.Goals as goal

pub returns-then-time-eq0 : goal.returns-then-time-eq0
unfolding timed_of
returns-then-time-eq0 c = rw (eq-eqb _ _ c.if-time-eq0.true)

pub returns-else-time-eq0 : goal.returns-else-time-eq0
unfolding timed_of
returns-else-time-eq0 c = rw (ne_eqb _ _ c.if-time-eq0.false)
