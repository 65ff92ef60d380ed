-- Both are the definition's.
use Rattle.tick_row.specs.Row.{metered_of}
use Rattle.tick_row.proofs.metered_of.Goals as goal

pub returns : goal.returns
unfolding metered_of
returns g c row is = simp (c.of_metered-2.ensures row is, c.of_metered.ensures row is)
