-- The code's tests are the definition's.
use Rattle.replay_lines.specs.Answer.{completes}
use Rattle.replay_lines.proofs.answer.completes.Goals as goal

pub returns-then-is_some : goal.returns-then-is_some
unfolding completes
returns-then-is_some c = rw (← c.is_some.ensures, c.if-is_some.true)

pub returns : goal.returns
unfolding completes
returns c = rw (← c.is_some.ensures, c.if-is_some.false)
