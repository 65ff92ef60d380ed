-- The metered lanes, then the mainline's.
use Rattle.period.specs.Range.{counts_spoilt}
use Rattle.period.proofs.range.counts_spoilt.Goals as goal

pub returns-then-any_metered_spoilt : goal.returns-then-any_metered_spoilt
unfolding counts_spoilt
returns-then-any_metered_spoilt c = rw (← c.any_metered_spoilt.ensures, c.if-any_metered_spoilt.true)

pub returns : goal.returns
unfolding counts_spoilt
returns c = rw (← c.any_metered_spoilt.ensures, c.if-any_metered_spoilt.false) c.any_lane_spoilt.ensures
