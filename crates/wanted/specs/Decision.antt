-- Document 01, 'Day and entry', 'What is wanted', and document 02, 'Plans that run past midnight' and 'Cesar Chavez Day': what a clock, two
-- commands and the periods decide at a site.
use Rattle.std.specs.Prelude.{ℕ, ◌/◌, ◌≤◌, ◌<◌, ◌≡◌, true}
use Rattle.site.specs.declared.Site.{Site}
use Rattle.site.specs.Named.{mainline_lanes}
use Rattle.calendar.specs.declared.clock.Clock.{Clock}
use Rattle.calendar.specs.declared.day.Date.{Date}
use Rattle.calendar.specs.Dates.{is_date}
use Rattle.calendar.specs.Holidays.{no_day, day_type_of}
use Rattle.calendar.specs.Named.{Typed}
use Rattle.plan.specs.Entry.{entry_of}
use Rattle.plan.specs.InForce.{in_force_of, InForce}
use Rattle.plan.specs.PastMidnight.{last_minute, in_force_now, InForceNow}
use Rattle.inputs.specs.declared.Command.{Command}
use Rattle.period.specs.declared.Periods.{Periods}
use Rattle.wanted.specs.declared.wish.Choice.{Choice}
use Rattle.wanted.specs.declared.wish.Wish.TheVariants.{Dark}
use Rattle.wanted.specs.declared.wish.Source.TheVariants.{Plan}
use Rattle.wanted.specs.declared.Decision.{Decision}
use Rattle.wanted.specs.Wish.{planned_of, ruling_of, source_of, choice_of}

unfoldable pub day_of : Site → Clock → ℕ
day_of x clock = day_type_of clock.date x.dates x.holidays

-- An entry is in force from its minute's first tenth; a minute has 600 tenths.
abbrev pub minute_of : Clock → ℕ
minute_of clock = clock.tenth / 600

unfoldable pub entry_in_force : Site → Clock → ℕ
entry_in_force x clock = in_force_now (in_force_of x.plan x.entries) x.dates x.holidays clock.date (minute_of clock)

-- The same in words, which `decide` and the tick promise where they refuse nothing.
pub record EntryInForce (x : Site) (clock : Clock) (place : ℕ) : Type 0 where
  pub in_force : InForceNow (in_force_of x.plan x.entries) x.dates x.holidays clock.date (minute_of clock) place
  -- "The latest start there, equal starts as before": what is in force on a day type at a minute, in document 01's words,
  pub latest : (day minute : ℕ) → InForce x.plan x.entries day minute (in_force_of x.plan x.entries day minute)
  -- and at a day's end each entry of it has begun.
  pub begun : (i : ℕ) → i < x.entries → (entry_of x.plan i).start ≤ last_minute
  -- And the day type of each date, by which these go, in the words of both documents.
  pub typed : (date : Date) → is_date date ≡ true → Typed date x.dates x.holidays (day_type_of date x.dates x.holidays)

unfoldable pub command_in_force : Site → Clock → Command → Command → Command
command_in_force x clock manual centre = ruling_of (source_of manual centre) manual centre (planned_of x.plan (entry_in_force x clock))

unfoldable pub decision_of : Site → Clock → Command → Command → Periods → Decision
decision_of x clock manual centre p =
    let c : Choice = choice_of (command_in_force x clock manual centre) x.tables x.levels (mainline_lanes x) p in
    record { day = day_of x clock; entry = entry_in_force x clock; source = source_of manual centre; level = c.level; wish = c.wish }

-- Where nothing is decided: no day, no entry, dark.
abbrev pub no_decision : Decision
no_decision = record { day = no_day; entry = 0; source = Plan; level = 0; wish = Dark }
