-- The code's tests are the definition's.
use Rattle.loops.proofs.Rules.{tests}
use Rattle.calendar.specs.Holidays.{is_fixed}
use Rattle.calendar.proofs.is_fixed.Goals as goal

pub returns-then-day-row : goal.returns-then-day-row
unfolding is_fixed
returns-then-day-row c = search tests

pub returns : goal.returns
unfolding is_fixed
returns c = search tests
