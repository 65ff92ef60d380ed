-- Past 31 none is; up to there it is the array's.
use borrow.Author.Tests.{lt-ltb, le-ltb}
use Rattle.desk.specs.Desk.{enrolled_at}
use Rattle.desk.proofs.enrolled_at.Goals as goal

pub returns-then-i-ge32 : goal.returns-then-i-ge32
unfolding enrolled_at
returns-then-i-ge32 c = rw (le-ltb _ _ c.if-i-ge32.true)

pub returns : goal.returns
unfolding enrolled_at
returns c = rw (lt-ltb _ _ c.if-i-ge32.false)
