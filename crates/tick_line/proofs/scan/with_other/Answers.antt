-- The two calls give the definition's.
use Rattle.tick_line.specs.Scan.{with_other}
use Rattle.tick_line.proofs.scan.with_other.Goals as goal

pub returns : goal.returns
unfolding with_other
returns c = simp (c.in_stage.ensures, c.after_other.ensures)
