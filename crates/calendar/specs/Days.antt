-- A date and the day before it, each in its month: what a holiday of the site file can name.
use Rattle.std.specs.Prelude.{ℕ, ◌+◌, ◌/◌, ◌%◌, ltb}
use Rattle.calendar.specs.declared.day.Date.{Date}
use Rattle.calendar.specs.declared.day.Day.{Day}
use Rattle.calendar.specs.Dates.{month_length, day_before, weekday_of}

-- A date of this weekday in its month. Days 1 to 7 are the first of their weekdays, 8 to 14 the second; the month's last seven days are the
-- final ones.
unfoldable pub in_month : Date → ℕ → Day
in_month date weekday = record {
  month = date.month;
  day = date.day;
  weekday = weekday;
  week = (date.day + 6) / 7;
  last = ltb (month_length date.year date.month) (date.day + 7);
}

unfoldable pub today_of : Date → Day
today_of date = in_month date (weekday_of date)

-- The day before in its month, of the weekday before today's: so "31 December 1999, a Friday, counts".
unfoldable pub yesterday_of : Date → Day
yesterday_of date = in_month (day_before date) ((weekday_of date + 6) % 7)
