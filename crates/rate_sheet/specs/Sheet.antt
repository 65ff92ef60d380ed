-- The cabinet's rate sheet.
use Rattle.std.specs.Prelude.{ℕ, ◌+◌, ◌-◌, List, ◌++◌, replicate}
use Rattle.text.specs.Ascii.{ascii}
use Rattle.text.specs.Decimal.{decimal}
use Rattle.text.specs.Joined.{joined}
use Rattle.phrases.specs.Phrases.{blank_and_seconds}
use Rattle.ranges.specs.Ranges.{rates}
use Rattle.site.specs.declared.Site.{Site}
use Rattle.release.specs.Cycle.{cycle_ticks}
use Rattle.tick.specs.declared.Input.{Input}
use Rattle.tick.specs.declared.Ticked.{Ticked}
use Rattle.tick.specs.Tick.{power_up_of, tick_of}
use Rattle.worked_runs.specs.SiteA.{least_of}
use Rattle.worked_runs.specs.Run.{metering_at}

-- A rate, and its cycle at 1, 2 and 3 vehicles per green.
unfoldable pub rate_line : ℕ → List ℕ
rate_line rate =
    decimal rate
    ++ (blank_and_seconds (cycle_ticks 1 rate) ++ (blank_and_seconds (cycle_ticks 2 rate) ++ (blank_and_seconds (cycle_ticks 3 rate) ++ ascii "\n")))

-- The lines of all rates that there are.
abbrev pub rate_lines : List ℕ
rate_lines = joined rate_line rates.low (rates.high + 1 - rates.low)

-- The heading, and the lines.
unfoldable pub sheet_text : List ℕ
sheet_text = ascii "rate V1 V2 V3\n" ++ rate_lines

-- Where the cycles come from: a ramp of one lane with every timing at its least but for the vehicles per green,
abbrev pub ramp : ℕ → Site
ramp vehicles = least_of 1 0 vehicles 10 10

-- a tick at which the technician asks for a rate, and no vehicle is seen,
abbrev pub asking : ℕ → Input
asking rate = metering_at rate (replicate 4 0)

-- as the first since power-up.
unfoldable pub first_tick : ℕ → ℕ → Ticked
first_tick vehicles rate = tick_of (ramp vehicles) (power_up_of (ramp vehicles)).state (asking rate)
