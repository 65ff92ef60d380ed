-- The detectors' samples, then the calls'.
use Rattle.tick.specs.Checks.{sample_bad}
use Rattle.tick.proofs.sample_bad.Goals as goal

pub returns-then-samples_bad : goal.returns-then-samples_bad
unfolding sample_bad
returns-then-samples_bad c = rw (← c.samples_bad.ensures, c.if-samples_bad.true)

pub returns-else-samples_bad : goal.returns-else-samples_bad
unfolding sample_bad
returns-else-samples_bad c = rw (← c.samples_bad.ensures, c.if-samples_bad.false) c.calls_bad.ensures
