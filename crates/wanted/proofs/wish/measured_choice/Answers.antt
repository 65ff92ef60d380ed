-- The code's cases are the definition's.
use Rattle.wanted.proofs.wish.measured_choice.Goals as goal

pub returns-in-None : goal.returns-in-None
returns-in-None c = rw c.in-None.is

pub returns-in-Some : goal.returns-in-Some
returns-in-Some c = rw (c.in-Some.is, ← c.deciding.ensures.is) c.level_choice.ensures
