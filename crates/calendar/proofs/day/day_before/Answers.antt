-- The three cases are the definition's.
use borrow.Author.Tests.{lt-ltb, le-ltb}
use Rattle.calendar.specs.Dates.{day_before}
use Rattle.calendar.proofs.day.day_before.Goals as goal

pub returns-then-date-gt1 : goal.returns-then-date-gt1
unfolding day_before
returns-then-date-gt1 c = rw (lt-ltb _ _ c.if-date-gt1.true)

pub returns-then-date-gt1-2 : goal.returns-then-date-gt1-2
unfolding day_before
returns-then-date-gt1-2 c = rw (le-ltb _ _ c.if-date-gt1.false, lt-ltb _ _ c.if-date-gt1-2.true, c.last_of.ensures)

pub returns : goal.returns
unfolding day_before
returns c =
    rw (le-ltb _ _ c.if-date-gt1.false, le-ltb _ _ c.if-date-gt1-2.false, c.last_of-2.ensures, c.saturating_sub.ensures)
