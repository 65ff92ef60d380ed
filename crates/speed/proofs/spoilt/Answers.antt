-- Out of a range is below its lower end, above its upper one, or no number.
use lib.Ieee.{of_bits}
use Rattle.speed.specs.Speed.{speed_spoilt}
use Rattle.speed.proofs.EndsLaws.{out_of_ends}
use Rattle.speed.proofs.spoilt.Goals as goal

pub returns-then-x : goal.returns-then-x
unfolding speed_spoilt of_bits
returns-then-x c = rw c.if-x.true

pub returns : goal.returns
unfolding speed_spoilt of_bits
returns c = rw c.if-x.false (out_of_ends c.args.x)
