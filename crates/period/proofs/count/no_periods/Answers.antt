-- Two empty counts, and no speeds.
use Rattle.period.specs.Counts.{no_periods}
use Rattle.period.proofs.count.no_periods.Goals as goal

pub returns : goal.returns
unfolding no_periods
returns c = rw (c.no_counts.ensures, c.no_counts-2.ensures, c.none_kept.ensures)
