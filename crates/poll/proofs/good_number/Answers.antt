-- By what the test says.
use Rattle.poll.proofs.good_number.Goals as goal

pub returns-then-is_good : goal.returns-then-is_good
returns-then-is_good c = rw (← c.is_good.ensures, c.if-is_good.true)

pub returns-else-is_good : goal.returns-else-is_good
returns-else-is_good c = rw (← c.is_good.ensures, c.if-is_good.false)
