-- The runs marked * of document 01, with document 02's cycles, bytes and dates: all by computation.
use mathlib.Core.Path.{refl}
use Rattle.worked_runs.specs.Starred.{Starred}
use Rattle.worked_runs.proofs.Computing.{computing}

pub starred : Starred
unfolding computing
starred = record {
  cycle_600 = refl;
  cycle_700 = refl;
  cycle_150 = refl;
  cycle_1600 = refl;
  fourth_thursday = refl;
  day_after = refl;
  not_the_fourth_friday = refl;
  final_monday = refl;
  march_sunday = refl;
  april_holiday = refl;
  december_sunday = refl;
  january_holiday = refl;
  february_sunday = refl;
  march_holiday = refl;
  flow_31 = refl;
  below_1260 = refl;
  flow_32 = refl;
  met_1260 = refl;
  empty_lists = refl;
  accepted = refl;
  one_byte_less = refl;
  one_byte_more = refl;
  dark_at_50 = refl;
  green_at_51 = refl;
  no_warning_at_60 = refl;
  warning_at_61 = refl;
  red_at_290 = refl;
  metering_at_291 = refl;
  lane_1_at_311 = refl;
  released = refl;
  released_with_offset = refl;
}
