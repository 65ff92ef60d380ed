-- The lanes as on entering metering, and no periods.
use Rattle.state.specs.State.{fresh_state}
use Rattle.state.proofs.fresh.Goals as goal

pub returns : goal.returns
unfolding fresh_state
returns c = rw (c.entered.ensures, c.none.ensures, c.no_periods.ensures)
