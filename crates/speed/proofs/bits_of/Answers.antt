-- What differs from itself is no number.
use lib.Ieee.{to_bits}
use Rattle.speed.proofs.SpeedLaws.{some_number, no_number}
use Rattle.speed.proofs.bits_of.Goals as goal

pub returns-then-x : goal.returns-then-x
unfolding to_bits
returns-then-x c = rw (no_number _ c.if-x.true)

pub float_to_bits-result : goal.float_to_bits-result
float_to_bits-result c = some_number _ c.if-x.false
