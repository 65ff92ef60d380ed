-- The code's tests are the definition's.
use Rattle.levels.specs.Levels.{is_met}
use Rattle.levels.proofs.is_met.Goals as goal

pub returns-then-reaches : goal.returns-then-reaches
unfolding is_met
returns-then-reaches c = rw (← c.reaches.ensures, c.if-reaches.true)

pub returns-then-reaches-2 : goal.returns-then-reaches-2
unfolding is_met
returns-then-reaches-2 c = rw (← c.reaches.ensures, c.if-reaches.false, ← c.reaches-2.ensures, c.if-reaches-2.true)

pub returns : goal.returns
unfolding is_met
returns c = rw (← c.reaches.ensures, c.if-reaches.false, ← c.reaches-2.ensures, c.if-reaches-2.false) c.is_slow.ensures
