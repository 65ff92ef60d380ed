-- A date's number is small enough to add to.
use native.Mathlib.Omega.{arith}
use Rattle.calendar.proofs.DateLaws.{number_most}
use Rattle.calendar.specs.Dates.{weekday_of}
use Rattle.calendar.proofs.day.weekday.Goals as goal

pub overflow_add-result : goal.overflow_add-result
overflow_add-result c = omega (arith, number_most _ c.requires, c.day_number.ensures)

pub returns : goal.returns
unfolding weekday_of
returns c = rw c.day_number.ensures
