-- Entries of earlier days in force, by computation.
use mathlib.Core.Path.{refl}
use Rattle.worked_runs.specs.PastMidnight.{PastMidnight}
use Rattle.worked_runs.proofs.Computing.{computing}

pub past_midnight : PastMidnight
unfolding computing
past_midnight = record {
  first_day = refl;
  first_thursday = refl;
  before_six = refl;
  at_six = refl;
  next_thursday = refl;
  next_friday = refl;
  seven_days = refl;
  eight_days = refl;
  after_thanksgiving = refl;
  after_29_february = refl;
  after_28_february = refl;
  after_monday = refl;
  on_monday = refl;
}
