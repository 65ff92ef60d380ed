-- The code's test is the definition's.
use Rattle.period.specs.Counting.{passages_at}
use borrow.Author.Tests.{lt-ltb, le-ltb}
use Rattle.period.proofs.count.passages_at.Goals as goal

pub returns-then-n-i : goal.returns-then-n-i
unfolding passages_at
returns-then-n-i c = rw (le-ltb _ _ c.if-n-i.true)

pub returns : goal.returns
unfolding passages_at
returns c = rw (lt-ltb _ _ c.if-n-i.false)
