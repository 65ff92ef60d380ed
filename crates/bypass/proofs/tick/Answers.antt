-- Whether one is kept, then the mark and the timer.
use Rattle.bypass.specs.Bypass.{bypass_of}
use Rattle.bypass.proofs.tick.Goals as goal

pub returns : goal.returns
unfolding bypass_of
returns c = rw (c.timer.ensures, c.mark.ensures, c.kept-kept.ensures)
