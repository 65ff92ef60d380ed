-- The code's tests are the definition's, in its order.
use Rattle.decide.specs.Decide.{first_refusal}
use Rattle.decide.proofs.first_refusal.Goals as goal

pub returns-then-site : goal.returns-then-site
unfolding first_refusal
returns-then-site c = rw c.if-site.true

pub returns-then-state : goal.returns-then-state
unfolding first_refusal
returns-then-state c = rw (c.if-site.false, c.if-state.true)

pub returns-then-clock : goal.returns-then-clock
unfolding first_refusal
returns-then-clock c = rw (c.if-site.false, c.if-state.false, c.if-clock.true)

pub returns-then-commands : goal.returns-then-commands
unfolding first_refusal
returns-then-commands c = rw (c.if-site.false, c.if-state.false, c.if-clock.false, c.if-commands.true)

pub returns : goal.returns
unfolding first_refusal
returns c = rw (c.if-site.false, c.if-state.false, c.if-clock.false, c.if-commands.false)
