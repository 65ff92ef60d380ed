-- Speeds from travel times, by computation.
use mathlib.Core.Path.{refl}
use lib.Ieee.{round, div, lt, le, eq, of_int, of_bits, size}
use Rattle.speed.specs.Speed.{speed_of, at_most, speed_spoilt}
use Rattle.lane_speeds.specs.Speeds.{slower_of, after_vehicle}
use Rattle.lane_speeds.specs.Reading.{reading_of}
use Rattle.levels.specs.Levels.{is_slow}
use Rattle.worked_runs.specs.LoopPairs.{LoopPairs}

pub loop_pairs : LoopPairs
unfolding round div lt le eq of_int of_bits size speed_of at_most speed_spoilt slower_of after_vehicle reading_of is_slow
loop_pairs = record {
  sixty = refl;
  fastest = refl;
  together = refl;
  at_threshold = refl;
  slower = refl;
  faster = refl;
  unknown = refl;
  not_in_use = refl;
  measured = refl;
  carried = refl;
  absent = refl;
  first = refl;
  second = refl;
  third = refl;
  no_vehicle = refl;
  none_kept = refl;
  minus_zero_kept = refl;
  least_kept = refl;
  most_kept = refl;
  below_least = refl;
  above_most = refl;
  infinite = refl;
  minus_infinite = refl;
  negative = refl;
  no_number = refl;
}
