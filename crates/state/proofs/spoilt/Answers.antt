-- The group, then the periods.
use Rattle.state.specs.State.{state_spoilt}
use Rattle.state.proofs.spoilt.Goals as goal

pub returns-then-group_spoilt : goal.returns-then-group_spoilt
unfolding state_spoilt
returns-then-group_spoilt c = rw (← c.group_spoilt.ensures, c.if-group_spoilt.true)

pub returns : goal.returns
unfolding state_spoilt
returns c = rw (← c.group_spoilt.ensures, c.if-group_spoilt.false) c.periods_spoilt.ensures
