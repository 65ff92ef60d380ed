-- The bound, the test and the range are the laws'; both casts lose nothing.
use mathlib.Core.Path.{refl}
use native.Mathlib.Omega.{arith}
use Rattle.speed.specs.Speed.{speed_of}
use Rattle.speed.proofs.SpeedLaws.{speed_near, speed_tests, speed_kept, speed_some, held}
use Rattle.speed.proofs.quotient.Goals as goal

pub int_to_float-result : goal.int_to_float-result
int_to_float-result c = held _ (omega (arith, c.requires.0))

pub int_to_float-result-2 : goal.int_to_float-result-2
int_to_float-result-2 c = held _ (omega (arith, c.requires.1))

pub returns : goal.returns
unfolding speed_of
returns c =
    let a = c.args in
    let v = a.vehicles in
    let ms = a.millis in (record { is = refl; near = speed_near v ms; exact = speed_tests v ms; kept = λ t. (speed_kept v ms t, speed_some v ms t) })
