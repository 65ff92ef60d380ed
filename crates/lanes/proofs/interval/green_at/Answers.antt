-- The code's test is the definition's.
use Rattle.lanes.specs.Intervals.{green_at}
use mathlib.Core.Path.{sym, ◌∙◌}
use Rattle.lanes.proofs.interval.green_at.Goals as goal

pub returns-then-ends_by : goal.returns-then-ends_by
unfolding green_at
returns-then-ends_by c = rw (sym c.ends_by.ensures ∙ c.if-ends_by.true)

pub returns : goal.returns
unfolding green_at
returns c = rw (sym c.ends_by.ensures ∙ c.if-ends_by.false)
