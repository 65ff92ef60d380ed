-- Each part is the definition's.
use Rattle.tick.specs.Tick.{finished_with}
use Rattle.tick.proofs.finished.Goals as goal

pub returns : goal.returns
unfolding finished_with
returns c = rw (c.does.ensures, c.shown.ensures, c.after_release.ensures, c.tick-moved.ensures)
