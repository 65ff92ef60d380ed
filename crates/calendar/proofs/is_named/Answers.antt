-- The row's kind decides, as in the definition.
use Rattle.loops.proofs.Rules.{tests}
use Rattle.calendar.specs.Holidays.{is_floating, is_named}
use Rattle.calendar.proofs.is_named.Goals as goal

pub returns-then-row-eq-MOVING : goal.returns-then-row-eq-MOVING
unfolding is_named
returns-then-row-eq-MOVING c = search (tests, c.is_moving.ensures)

pub returns-then-row-eq-FIXED : goal.returns-then-row-eq-FIXED
unfolding is_named
returns-then-row-eq-FIXED c = search (tests, c.is_fixed.ensures)

pub returns-then-today-row : goal.returns-then-today-row
unfolding is_named is_floating
returns-then-today-row c = search tests

pub returns-then-row-eq-FLOATING : goal.returns-then-row-eq-FLOATING
unfolding is_named is_floating
returns-then-row-eq-FLOATING c = search (tests, c.in_week.ensures)

pub returns-then-yesterday-row : goal.returns-then-yesterday-row
unfolding is_named is_floating
returns-then-yesterday-row c = search tests

pub returns-then-row-eq-DAY_AFTER : goal.returns-then-row-eq-DAY_AFTER
unfolding is_named is_floating
returns-then-row-eq-DAY_AFTER c = search (tests, c.in_week-then-row-eq-DAY_AFTER.ensures)

pub returns : goal.returns
unfolding is_named is_floating
returns c = search tests
