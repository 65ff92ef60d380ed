-- The code's test is the definition's.
use Rattle.replay_lines.specs.Replay.{line_text}
use Rattle.replay_lines.proofs.run.put_line.Goals as goal

pub returns-then-is_tick : goal.returns-then-is_tick
unfolding line_text
returns-then-is_tick c = (record { is = rw (← c.is_tick.ensures, c.if-is_tick.true) c.put_answer.ensures.is; short = rw (← c.is_tick.ensures, c.if-is_tick.true) c.put_answer.ensures.short })

pub returns : goal.returns
unfolding line_text
returns c = (record { is = rw (← c.is_tick.ensures, c.if-is_tick.false) c.put_no_tick.ensures.is; short = rw (← c.is_tick.ensures, c.if-is_tick.false) c.put_no_tick.ensures.short })
