-- Document 02, A8: "A call gives each mainline lane's reading and these two speeds of the last completed period (14, 13, 12; refused, all are
-- absent and 0)." The checks are the poll's. Lanes are counted from 0.
use Rattle.std.specs.Prelude.{ℕ, ◌<◌, get_or, replicate, Option, Some, None}
use Rattle.refusals.specs.declared.Refusal.{Refusal}
use Rattle.loops.specs.Each.{six}
use Rattle.site.specs.declared.Site.{Site}
use Rattle.speed.specs.Speed.{SpeedNear}
use Rattle.lane_speeds.specs.declared.reading.Reading.{Reading}
use Rattle.lane_speeds.specs.declared.reading.Reading.TheVariants.{Absent, Measured, Carried}
use Rattle.lane_speeds.specs.Speeds.{no_speeds, last_of, earlier_of}
use Rattle.lane_speeds.specs.Reading.{reading_of}
use Rattle.period.specs.declared.Counts.{Counts}
use Rattle.period.specs.declared.Periods.{Periods}
use Rattle.period.specs.Counts.{lane_of}
use Rattle.state.specs.declared.State.{State}
use Rattle.poll.specs.Poll.{refusal_of}
use Rattle.readings.specs.declared.LaneReading.{LaneReading}
use Rattle.readings.specs.declared.Readings.{Readings}

abbrev pub no_reading : LaneReading
no_reading = record { reading = Absent; speeds = no_speeds }

-- Lane j's, by its counts of the last completed period, its last measured speed of those before, and its two speeds of the last one.
unfoldable pub lane_reading_of : Periods → ℕ → LaneReading
lane_reading_of p j = record {
  reading = reading_of (lane_of p.last j).timed (lane_of p.last j).millis (earlier_of p.speeds j);
  speeds = last_of p.speeds j;
}

unfoldable pub readings_of : Periods → Readings
readings_of p = record { refusal = None; lanes = six (lane_reading_of p) }

-- "Refused, all are absent and 0."
unfoldable pub refused_readings : Refusal → Readings
refused_readings refusal = record { refusal = Some refusal; lanes = replicate 6 no_reading }

-- An answer of which the checks say so.
unfoldable pub readings_by : Option Refusal → Periods → Readings
readings_by None p = readings_of p
readings_by (Some refusal) p = refused_readings refusal

unfoldable pub read_of : Site → State → Readings
read_of x s = readings_by (refusal_of x s) s.periods

-- What an answer says of lane j.
abbrev pub lane_in : Readings → ℕ → LaneReading
lane_in r j = get_or r.lanes j no_reading

-- "Where a vehicle was timed, the quotient is off by at most the exact value ÷ 2^52": of each lane that is measured, by the counts of the
-- last completed period.
abbrev pub NearIf : ℕ → ℕ → Reading → Type 0
NearIf vehicles millis Absent = Unit {0}
NearIf vehicles millis (Measured x) = SpeedNear x vehicles millis
NearIf vehicles millis (Carried x) = Unit {0}

unfoldable pub MeasuredNear : Counts → Readings → Type 0
MeasuredNear c r = (j : ℕ) → j < 6 → NearIf (lane_of c j).timed (lane_of c j).millis (lane_in r j).reading
