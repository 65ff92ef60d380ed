-- The calls give the definition's; law `by_lines` is of all replays that begin there.
use Rattle.replay_lines.specs.Replay.{start_of}
use Rattle.replay_lines.proofs.LinesLaws.{by_lines}
use Rattle.replay_lines.proofs.run.start.Goals as goal

pub returns : goal.returns
unfolding start_of
returns c = (record { is = rw (c.line_start.ensures, c.power_up.ensures.is); lines = by_lines _ })
