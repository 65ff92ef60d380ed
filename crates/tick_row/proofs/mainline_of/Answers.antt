-- Each of the four is the definition's.
use Rattle.tick_row.specs.Row.{mainline_of}
use Rattle.tick_row.proofs.mainline_of.Goals as goal

pub returns : goal.returns
unfolding mainline_of
returns g c row is = simp (c.of_mainline-4.ensures row is, c.of_mainline-3.ensures row is, c.of_mainline-2.ensures row is, c.of_mainline.ensures row is)
