-- The metered lanes, then the mainline's.
use Rattle.inputs.specs.Samples.{samples_bad}
use Rattle.inputs.proofs.samples_bad.Goals as goal

pub returns-then-any_metered_bad : goal.returns-then-any_metered_bad
unfolding samples_bad
returns-then-any_metered_bad c = rw (← c.any_metered_bad.ensures, c.if-any_metered_bad.true)

pub returns : goal.returns
unfolding samples_bad
returns c = rw (← c.any_metered_bad.ensures, c.if-any_metered_bad.false) c.any_lane_bad.ensures
