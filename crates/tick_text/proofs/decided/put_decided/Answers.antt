-- The code's test is the definition's.
use Rattle.tick_text.specs.Decided.{decided_text}
use Rattle.tick_text.proofs.decided.put_decided.Goals as goal

pub returns-then-is_some : goal.returns-then-is_some
unfolding decided_text
returns-then-is_some c = rw (← c.is_some.ensures, c.if-is_some.true) c.put.ensures

pub returns : goal.returns
unfolding decided_text
returns c = rw (← c.is_some.ensures, c.if-is_some.false) c.put_accepted.ensures
