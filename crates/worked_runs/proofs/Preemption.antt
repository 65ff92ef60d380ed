-- The fire service's two runs with no tick to spare, by computation.
use mathlib.Core.Path.{refl}
use Rattle.worked_runs.specs.Preemption.{NoTickToSpare}
use Rattle.worked_runs.proofs.Computing.{computing}

pub no_tick_to_spare : NoTickToSpare
unfolding computing
no_tick_to_spare = record {
  warning_at_52 = refl;
  clearing_at_least = refl;
  startup_in_time = refl;
  startup_no_tick_to_spare = refl;
  released_at_102 = refl;
  clearing_of_slow_site = refl;
  closing_in_time = refl;
  closing_no_tick_to_spare = refl;
}
