-- The code's test is the definition's, and its 10.0 the definition's 10.
use mathlib.Core.Path.{refl}
use lib.Ieee.{of_bits, of_int}
use Rattle.speed.specs.Tenths.{tenth}
use Rattle.speed.proofs.tenth.reaches.Goals as goal

pub returns : goal.returns
unfolding tenth of_bits of_int
returns c = refl
