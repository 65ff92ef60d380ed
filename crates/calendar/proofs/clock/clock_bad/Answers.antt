-- The code's two tests are the definition's.
use Rattle.calendar.specs.Clock.{clock_bad}
use borrow.Author.Tests.{not-true, not-false}
use Rattle.calendar.proofs.clock.clock_bad.Goals as goal

pub returns-then-not-is_date : goal.returns-then-not-is_date
unfolding clock_bad
returns-then-not-is_date c = rw (← c.is_date.ensures, not-true c.is_date.result c.if-not-is_date.true-raw)

pub returns : goal.returns
unfolding clock_bad
returns c = rw (← c.is_date.ensures, not-false c.is_date.result c.if-not-is_date.false-raw)
