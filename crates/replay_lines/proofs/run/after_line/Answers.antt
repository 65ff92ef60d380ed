-- The code's test is the definition's.
use Rattle.replay_lines.specs.Replay.{after_line}
use Rattle.replay_lines.proofs.run.after_line.Goals as goal

pub returns-then-is_tick : goal.returns-then-is_tick
unfolding after_line
returns-then-is_tick c = rw (← c.is_tick.ensures, c.if-is_tick.true, c.noted.ensures, c.line_start.ensures)

pub returns : goal.returns
unfolding after_line
returns c = rw (← c.is_tick.ensures, c.if-is_tick.false, c.line_start-2.ensures)
