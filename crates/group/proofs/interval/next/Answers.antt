-- The code's test is the definition's.
use Rattle.group.specs.Intervals.{next_interval}
use borrow.Author.Tests.{le-leb, lt-leb}
use Rattle.group.proofs.interval.next.Goals as goal

pub returns-then-age-time_of : goal.returns-then-age-time_of
unfolding next_interval
returns-then-age-time_of c = rw (← c.time_of.ensures, lt-leb _ _ c.if-age-time_of.true)

pub returns : goal.returns
unfolding next_interval
returns c = rw (← c.time_of.ensures, le-leb _ _ c.if-age-time_of.false) c.successor.ensures
