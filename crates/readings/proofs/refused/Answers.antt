-- Six lanes without a reading.
use Rattle.readings.specs.Readings.{refused_readings}
use Rattle.readings.proofs.refused.Goals as goal

pub returns : goal.returns
unfolding refused_readings
returns c = rw c.no_reading.ensures
