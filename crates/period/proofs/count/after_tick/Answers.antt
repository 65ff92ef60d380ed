-- The counts and the speeds, then the period's end; all keep the range.
use Rattle.period.proofs.RangeLaws.{periods_good, good_periods, periods_after}
use Rattle.period.specs.Counting.{closed_of, after_tick}
use mathlib.Core.Path.{◌≡◌, ap₂, ◌∙◌}
use Rattle.period.proofs.count.after_tick.Goals as goal
use Rattle.period.proofs.count.after_tick.Goals.{After-closed}

is : (c : After-closed) → let a = c.args in c.closed.result ≡ after_tick a.p a.lanes a.main a.shape.lanes a.shape.mainline
unfolding after_tick
is c = c.closed.ensures ∙ ap₂ (closed_of c.args.p) c.counted-c.ensures c.timed-speeds.ensures

pub returns : goal.returns
returns c =
    let a = c.args in (record { is = is c; kept = rw (is c) (good_periods _ a.shape.lanes a.shape.mainline (periods_after a.p a.lanes a.main a.shape.lanes a.shape.mainline (periods_good a.p a.shape.lanes a.shape.mainline c.requires.0) c.requires.1)) })
