-- The runs of a bus, by computation.
use mathlib.Core.Path.{refl}
use Rattle.worked_runs.specs.Bus.{JustInTime, JustInTimeAlone, BusAtTheEnd}
use Rattle.worked_runs.proofs.Computing.{computing}

pub just_in_time : JustInTime 0
unfolding computing
just_in_time = record {
  long_green = refl;
  begins_behind_the_other = refl;
  calling_behind_the_other = refl;
  other_in_time = refl;
  other_no_tick_to_spare = refl;
  long_red = refl;
  begins_behind_its_own = refl;
  calling_behind_its_own = refl;
  own_in_time = refl;
  own_no_tick_to_spare = refl;
}

pub just_in_time_with_offset : JustInTime 1
unfolding computing
just_in_time_with_offset = record {
  long_green = refl;
  begins_behind_the_other = refl;
  calling_behind_the_other = refl;
  other_in_time = refl;
  other_no_tick_to_spare = refl;
  long_red = refl;
  begins_behind_its_own = refl;
  calling_behind_its_own = refl;
  own_in_time = refl;
  own_no_tick_to_spare = refl;
}

pub just_in_time_alone : JustInTimeAlone
unfolding computing
just_in_time_alone = record { alone = refl; alone_in_time = refl; alone_no_tick_to_spare = refl }

pub as_the_tick_begins : BusAtTheEnd 0
unfolding computing
as_the_tick_begins = record { bound = refl; waits_as_it_begins_lem = refl; passed_over = refl; waits_not = refl }

pub as_the_tick_begins_with_offset : BusAtTheEnd 1
unfolding computing
as_the_tick_begins_with_offset = record { bound = refl; waits_as_it_begins_lem = refl; passed_over = refl; waits_not = refl }
