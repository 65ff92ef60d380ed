-- The numbers of a tick's input with their ranges, in the order of the tick's row, and the first that is out of range.
use Rattle.std.specs.Prelude.{ℕ, zero, suc, ◌+◌, ◌-◌, cond, Option, Some, None}
use Rattle.std.specs.Option.{option_or}
use Rattle.numbers.specs.declared.Range.{Range}
use Rattle.numbers.specs.Within.{is_within}
use Rattle.ranges.specs.Ranges.{rate_range, table_range}
use Rattle.timings.specs.declared.Shape.{Shape}
use Rattle.calendar.specs.declared.clock.Clock.{Clock}
use Rattle.calendar.specs.Dates.{years, months, days_of}
use Rattle.calendar.specs.Clock.{tenths}
use Rattle.inputs.specs.declared.MeteredSample.{MeteredSample}
use Rattle.inputs.specs.declared.LaneSample.{LaneSample}
use Rattle.inputs.specs.declared.Calls.{Calls}
use Rattle.inputs.specs.declared.Command.{Command}
use Rattle.inputs.specs.Samples.{metered_sample_of, lane_sample_of, flags, occupancies, times}
use Rattle.inputs.specs.Commands.{kinds}
use Rattle.tick.specs.declared.Input.{Input}
use Rattle.tick_diagnosis.specs.declared.number.Part.{Part}
use Rattle.tick_diagnosis.specs.declared.number.Part.TheVariants.{TheClock, MeteredLane, MainlineLane, TheCalls, Manual, Communications}
use Rattle.tick_diagnosis.specs.declared.number.Number.{Number}

-- Number x, in this column of its part, if it is out of its range.
unfoldable pub number_of : Part → ℕ → ℕ → Range → Option Number
number_of part column x g = cond (is_within g x) None (Some (record { part = part; column = column; value = x; low = g.low; high = g.high }))

-- The first of the next k from i on that is out of range, else what follows.
abbrev pub first_from : (ℕ → Option Number) → ℕ → ℕ → Option Number → Option Number
first_from f i zero rest = rest
first_from f i (suc k) rest = option_or (f i) (first_from f (i + 1) k rest)

-- Of a part's numbers the first that is out of range, if one is. The clock: year, month, day, tenth.
unfoldable pub in_clock : Clock → Option Number
in_clock c =
    option_or (number_of TheClock 0 c.date.year years)
    (option_or (number_of TheClock 1 c.date.month months)
    (option_or (number_of TheClock 2 c.date.day (days_of c.date.year c.date.month))
    (number_of TheClock 3 c.tenth tenths)))

-- A metered lane: demand, passage.
unfoldable pub in_metered : ℕ → MeteredSample → Option Number
in_metered i s = option_or (number_of (MeteredLane i) 0 s.demand flags) (number_of (MeteredLane i) 1 s.passage flags)

-- A mainline lane: working, occupied, vehicles, time.
unfoldable pub in_mainline : ℕ → LaneSample → Option Number
in_mainline j s =
    option_or (number_of (MainlineLane j) 0 s.working flags)
    (option_or (number_of (MainlineLane j) 1 s.occupied occupancies)
    (option_or (number_of (MainlineLane j) 2 s.vehicles flags)
    (number_of (MainlineLane j) 3 s.time times)))

-- The calls: preemption, bypass.
unfoldable pub in_calls : Calls → Option Number
in_calls calls = option_or (number_of TheCalls 0 calls.preemption flags) (number_of TheCalls 1 calls.bypass flags)

-- A command's kinds 1 to 4 are an entry's modes 0 to 3. Kind 0 has neither rate nor table, as mode 0 has none.
unfoldable pub mode_of : ℕ → ℕ
mode_of kind = kind - 1

-- A command: kind, rate, table.
unfoldable pub in_command : Part → Command → Option Number
in_command part c =
    option_or (number_of part 0 c.kind kinds)
    (option_or (number_of part 1 c.rate (rate_range (mode_of c.kind)))
    (number_of part 2 c.table (table_range (mode_of c.kind))))

-- The metered lanes' numbers, and the mainline lanes', lane by lane; else what follows.
unfoldable pub in_lanes : Shape → Input → Option Number → Option Number
in_lanes h i rest =
    first_from (λ k. in_metered k (metered_sample_of i.lanes k)) 0 h.lanes
    (first_from (λ k. in_mainline k (lane_sample_of i.main k)) 0 h.mainline rest)

-- The first that is out of range of all the input's numbers, if one is.
unfoldable pub first_bad : Shape → Input → Option Number
first_bad h i =
    option_or (in_clock i.clock)
    (in_lanes h i
    (option_or (in_calls i.calls) (option_or (in_command Manual i.manual) (in_command Communications i.centre))))
