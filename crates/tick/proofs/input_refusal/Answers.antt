-- The code's tests are the definition's, in its order.
use Rattle.tick.specs.Checks.{input_refusal}
use Rattle.tick.proofs.input_refusal.Goals as goal

pub returns-then-clock_bad : goal.returns-then-clock_bad
unfolding input_refusal
returns-then-clock_bad c = rw (← c.clock_bad.ensures, c.if-clock_bad.true)

pub returns-then-sample_bad : goal.returns-then-sample_bad
unfolding input_refusal
returns-then-sample_bad c = rw (← c.clock_bad.ensures, c.if-clock_bad.false, ← c.sample_bad.ensures, c.if-sample_bad.true)

pub returns-then-commands_bad : goal.returns-then-commands_bad
unfolding input_refusal
returns-then-commands_bad c = rw (← c.clock_bad.ensures, c.if-clock_bad.false, ← c.sample_bad.ensures, c.if-sample_bad.false, ← c.commands_bad.ensures, c.if-commands_bad.true)

pub returns : goal.returns
unfolding input_refusal
returns c = rw (← c.clock_bad.ensures, c.if-clock_bad.false, ← c.sample_bad.ensures, c.if-sample_bad.false, ← c.commands_bad.ensures, c.if-commands_bad.false)
