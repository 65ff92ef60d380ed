-- The record is the definition's.
use Rattle.calendar.specs.Days.{in_month}
use Rattle.calendar.proofs.day.in_month.Goals as goal

pub returns : goal.returns
unfolding in_month
returns c = rw c.month_length.ensures
