-- The calls give the definition's.
use Rattle.replay_lines.specs.Replay.{line_of}
use Rattle.replay_lines.proofs.run.line_of.Goals as goal

pub returns : goal.returns
unfolding line_of
returns c = rw (c.one_more.ensures, c.tick.ensures.is, c.read-read.ensures.is, c.shape_of-shape.ensures)
