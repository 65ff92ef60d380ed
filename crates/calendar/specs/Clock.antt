-- Document 01, 'One tick's input': "year 2000-2099, a true date, tenth of the day 0-863999". 8: "no such date or tenth".
use Rattle.std.specs.Prelude.{Bool, not, ◌||◌, ltb}
use Rattle.numbers.specs.declared.Range.{Range}
use Rattle.numbers.specs.Within.{between}
use Rattle.calendar.specs.declared.clock.Clock.{Clock}
use Rattle.calendar.specs.Dates.{is_date}

-- "Tenth of the day 0-863999."
abbrev pub tenths : Range
tenths = between 0 863999

unfoldable pub clock_bad : Clock → Bool
clock_bad clock = not (is_date clock.date) || ltb tenths.high clock.tenth
