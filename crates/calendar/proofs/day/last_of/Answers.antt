-- The month's last day is the high end of its days.
use Rattle.calendar.specs.Dates.{last_of}
use Rattle.calendar.proofs.day.last_of.Goals as goal

pub returns : goal.returns
unfolding last_of
returns c = rw c.days.ensures
