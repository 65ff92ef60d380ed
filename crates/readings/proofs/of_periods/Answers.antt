-- Six lanes.
use Rattle.readings.specs.Readings.{readings_of}
use Rattle.readings.proofs.of_periods.Goals as goal

pub returns : goal.returns
unfolding readings_of
returns c = rw (c.lane_reading-6.ensures, c.lane_reading-5.ensures, c.lane_reading-4.ensures, c.lane_reading-3.ensures, c.lane_reading-2.ensures, c.lane_reading.ensures)
