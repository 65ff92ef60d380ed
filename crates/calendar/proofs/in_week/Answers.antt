-- The code's tests are the definition's.
use Rattle.loops.proofs.Rules.{tests}
use Rattle.calendar.specs.Holidays.{in_week}
use Rattle.calendar.proofs.in_week.Goals as goal

pub returns-then-day-row : goal.returns-then-day-row
unfolding in_week
returns-then-day-row c = search tests

pub returns-then-row-eq-FINAL_WEEK : goal.returns-then-row-eq-FINAL_WEEK
unfolding in_week
returns-then-row-eq-FINAL_WEEK c = search tests

pub returns : goal.returns
unfolding in_week
returns c = search tests
