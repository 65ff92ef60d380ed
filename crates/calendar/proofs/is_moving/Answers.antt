-- The two answers, each with the test of its weekday.
use Rattle.calendar.specs.Holidays.{is_moving}
use Rattle.calendar.proofs.is_moving.Goals as goal

pub returns : goal.returns
unfolding is_moving
returns c = rw (← c.is_fixed-day_after.ensures, ← c.is_fixed-itself.ensures)
