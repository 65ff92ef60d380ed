-- Each part is the definition's.
use Rattle.readings.specs.Readings.{lane_reading_of}
use Rattle.readings.proofs.lane_reading.Goals as goal

pub returns : goal.returns
unfolding lane_reading_of
returns c = rw (c.last_at.ensures, c.read.ensures, c.earlier_at.ensures, c.lane_counts-c.ensures)
