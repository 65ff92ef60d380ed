-- The table rises from month to month.
use Rattle.calendar.proofs.DateLaws.{before_rises}
use Rattle.calendar.specs.Dates.{month_length}
use borrow.Author.Rules.{rules}
use Rattle.calendar.proofs.day.month_length.Goals as goal

pub overflow_sub-result : goal.overflow_sub-result
overflow_sub-result c = rw (c.days_before-2.ensures, c.days_before.ensures) (before_rises _ _ (search rules))

pub returns : goal.returns
unfolding month_length
returns c = rw (c.days_before-2.ensures, c.days_before.ensures)
