-- The nearest cycle in the lanes' greens, by computation.
use mathlib.Core.Path.{refl}
use Rattle.worked_runs.specs.NearestCycle.{InGreens}
use Rattle.worked_runs.proofs.Computing.{computing}

pub in_greens : InGreens
unfolding computing
in_greens = record {
  greens_at_700 = refl;
  greens_at_960 = refl;
  waiting_at_700 = refl;
  bound_at_51 = refl;
  in_time = refl;
  no_tick_to_spare = refl;
}
