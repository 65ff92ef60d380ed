-- The code's test is the definition's.
use mathlib.Core.Path.{ap, ◌∙◌}
use Rattle.inputs.specs.Samples.{travel_time}
use borrow.Author.Tests.{lt-ltb, le-ltb}
use Rattle.lane_speeds.specs.Speeds.{time_at}
use Rattle.lane_speeds.proofs.time_at.Goals as goal

pub returns-then-m-j : goal.returns-then-m-j
unfolding time_at
returns-then-m-j c = rw (le-ltb _ _ c.if-m-j.true)

pub returns : goal.returns
unfolding time_at
returns c = rw (lt-ltb _ _ c.if-m-j.false) (c.travel_time.ensures ∙ ap travel_time c.lane_sample.ensures)
