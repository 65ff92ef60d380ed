-- The waiting bound on these runs, by computation.
use mathlib.Core.Path.{refl}
use Rattle.worked_runs.specs.Waiting.{WaitingRuns}
use Rattle.worked_runs.proofs.Computing.{computing}

pub waiting_runs : WaitingRuns
unfolding computing
waiting_runs = record {
  bound_at_60 = refl;
  bound_with_offset = refl;
  before_metering = refl;
  begins_at_41 = refl;
  not_at_40 = refl;
  one_waiting = refl;
  bound_of_one_lane = refl;
  in_time = refl;
  no_tick_to_spare = refl;
  two_waiting = refl;
  bound_of_two_lanes = refl;
  two_in_time = refl;
  two_no_tick_to_spare = refl;
  two_waiting_with_offset = refl;
  bound_of_two_with_offset = refl;
  two_with_offset_in_time = refl;
  two_with_offset_no_tick_to_spare = refl;
}
