-- Each is computed.
use mathlib.Core.Path.{refl}
use Rattle.rounding.specs.Up.{rounded_up}
use Rattle.slope.specs.Slope.{is_from, speed_in, grade_in, divisor_of, ticks_of, yellow_at}
use Rattle.slope.specs.Worked.{Worked}

pub worked : Worked
unfolding rounded_up is_from speed_in grade_in divisor_of ticks_of yellow_at
worked = record {
  level = refl;
  downhill = refl;
  uphill = refl;
  fast_downhill = refl;
  slow_uphill = refl;
  too_slow = refl;
  too_fast = refl;
  too_low = refl;
  too_high = refl;
  least_speed_lem = refl;
  greatest_speed = refl;
  least_grade_lem = refl;
  greatest_grade = refl;
}
