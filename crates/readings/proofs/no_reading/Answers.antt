-- Absent, and two zeros.
use mathlib.Core.Path.{refl}
use lib.Ieee.{of_bits}
use Rattle.readings.proofs.no_reading.Goals as goal

pub returns : goal.returns
unfolding of_bits
returns c = refl
