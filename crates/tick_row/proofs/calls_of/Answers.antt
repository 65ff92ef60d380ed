-- Each number is the definition's.
use Rattle.tick_row.specs.Row.{calls_of}
use Rattle.tick_row.proofs.calls_of.Goals as goal

pub returns : goal.returns
unfolding calls_of
returns g c row is = simp (is _ _ c.number-2.ensures, is _ _ c.number.ensures)
