-- The code's two tests are the definition's.
use Rattle.plan.specs.InForce.{applies}
use borrow.Author.Tests.{not-true, not-false}
use Rattle.plan.proofs.applies.Goals as goal

pub returns-then-not-on_day : goal.returns-then-not-on_day
unfolding applies
returns-then-not-on_day c = rw (← c.on_day.ensures, not-true c.on_day.result c.if-not-on_day.true-raw)

pub returns : goal.returns
unfolding applies
returns c = rw (← c.on_day.ensures, not-false c.on_day.result c.if-not-on_day.false-raw)
