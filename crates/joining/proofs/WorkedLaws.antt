-- Each is computed.
use mathlib.Core.Path.{refl}
use mathlib.Core.List.{[]}
use mathlib.Core.Option.{none-ne-some}
use Rattle.numbers.specs.Within.{is_within}
use Rattle.ranges.specs.Ranges.{entry_range, rate_range, table_range}
use Rattle.ranges.specs.Sections.{range_of, may_be_unused, is_good}
use Rattle.site.specs.Record.{spoilt_of}
use Rattle.calendar.specs.Dates.{days_before, month_length, is_date, last_of, day_before, day_number, weekday_of}
use Rattle.calendar.specs.Days.{in_month, today_of, yesterday_of}
use Rattle.calendar.specs.Holidays.{day_type_of}
use Rattle.plan.specs.Entry.{on_day}
use Rattle.plan.specs.InForce.{applies, takes_over, in_force_of}
use Rattle.plan.specs.PastMidnight.{in_force_now}
use Rattle.joining.specs.Joining.{lacks, covers, joined_of}
use Rattle.joining.specs.Worked.{fixed, always, today, Worked}

pub worked : Worked
unfolding joined_of covers lacks spoilt_of is_good may_be_unused range_of entry_range rate_range table_range is_within on_day applies takes_over in_force_of in_force_now day_type_of is_date days_before month_length last_of day_before day_number weekday_of in_month today_of yesterday_of
worked = record {
  covered = refl;
  some_days = refl;
  but_holiday = refl;
  together = refl;
  other_start = refl;
  equal = refl;
  seventeen = refl;
  sixteen = refl;
  one_dropped = refl;
  both_full = refl;
  thirty_two = refl;
  empty = refl;
  first_spoilt = refl;
  second_spoilt = refl;
  number_spoilt = refl;
  refused_none = refl;
  laid_some = refl;
  not_of_refused = λ h. none-ne-some (fixed always 101 600) (h [] 0 today 600);
}
