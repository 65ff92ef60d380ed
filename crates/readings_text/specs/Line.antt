-- The line of the mainline lanes' readings that the replay program prints.
use Rattle.std.specs.Prelude.{ℕ, zero, suc, ◌+◌, ◌/◌, ◌%◌, List, [], ◌++◌, Float}
use Rattle.text.specs.Ascii.{ascii}
use Rattle.text.specs.Decimal.{decimal}
use Rattle.phrases.specs.Phrases.{blank_and_decimal}
use Rattle.speed.specs.Tenths.{tenths_of}
use Rattle.lane_speeds.specs.declared.reading.Reading.{Reading}
use Rattle.lane_speeds.specs.declared.reading.Reading.TheVariants.{Absent, Measured, Carried}
use Rattle.lane_speeds.specs.Reading.{speed_in}
use Rattle.readings.specs.declared.LaneReading.{LaneReading}
use Rattle.readings.specs.declared.Readings.{Readings}
use Rattle.readings.specs.Readings.{lane_in}

-- A speed in km/h with one decimal.
unfoldable pub speed_text : Float → List ℕ
speed_text x = blank_and_decimal (tenths_of x / 10) ++ (ascii "." ++ decimal (tenths_of x % 10))

-- The case: `m` measured, `c` carried over, `-` absent.
abbrev pub case_text : Reading → List ℕ
case_text Absent = ascii " -"
case_text (Measured x) = ascii " m"
case_text (Carried x) = ascii " c"

-- A lane: the case and its speed, 0 where it is absent; the latest and the slowest speed of the period.
unfoldable pub lane_text : LaneReading → List ℕ
lane_text l = case_text l.reading ++ (speed_text (speed_in l.reading) ++ (speed_text l.speeds.latest ++ speed_text l.speeds.slowest))

-- The next k lanes from j on.
abbrev pub lanes_text : Readings → ℕ → ℕ → List ℕ
lanes_text r j zero = []
lanes_text r j (suc k) = lane_text (lane_in r j) ++ lanes_text r (j + 1) k

-- The line of m lanes.
unfoldable pub speeds_line : Readings → ℕ → List ℕ
speeds_line r m = ascii "speeds" ++ (lanes_text r 0 m ++ ascii "\n")

-- No line of at most six lanes is longer.
abbrev pub longest_speeds : ℕ
longest_speeds = 163
