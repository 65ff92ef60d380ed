-- Zeros, and no periods.
use Rattle.state.specs.State.{zero_state}
use Rattle.state.proofs.zero.Goals as goal

pub returns : goal.returns
unfolding zero_state
returns c = rw (c.none.ensures, c.no_periods.ensures)
