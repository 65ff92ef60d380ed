-- The day before, whose weekday is the one before.
use native.Mathlib.Omega.{arith}
use Rattle.calendar.proofs.DateLaws.{weekday_most}
use Rattle.calendar.proofs.DayBefore.{before_fits}
use Rattle.calendar.specs.Days.{yesterday_of}
use Rattle.calendar.proofs.day.yesterday.Goals as goal

pub overflow_add-weekday : goal.overflow_add-weekday
overflow_add-weekday c = omega (arith, weekday_most c.args.date, c.requires.1)

pub in_month-requires : goal.in_month-requires
in_month-requires c =
    let f = before_fits _ c.requires.0 in
    rw c.day_before.ensures (f.month_low, f.month_high, f.day_high)

pub returns : goal.returns
unfolding yesterday_of
returns c = rw (c.in_month.ensures, c.day_before.ensures, c.requires.1)
