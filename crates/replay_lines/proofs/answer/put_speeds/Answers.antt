-- The readings' line where they are not refused, else no text.
use Rattle.text.proofs.PutsLaws.{puts_nothing}
use Rattle.replay_lines.specs.Answer.{speeds_text}
use Rattle.replay_lines.proofs.answer.put_speeds.Goals as goal

pub returns-then-is_some : goal.returns-then-is_some
unfolding speeds_text
returns-then-is_some c = rw (← c.read-readings.ensures.is, ← c.is_some.ensures, c.if-is_some.true) puts_nothing

pub returns : goal.returns
unfolding speeds_text
returns c =
    rw (← c.read-readings.ensures.is, ← c.is_some.ensures, c.if-is_some.false) (rw c.shape_of.ensures at c.put_speeds.ensures)
