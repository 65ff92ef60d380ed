-- The code's test is the definition's.
use Rattle.period.specs.Range.{metered_spoilt_at}
use borrow.Author.Tests.{lt-ltb, le-ltb}
use Rattle.period.proofs.range.metered_spoilt_at.Goals as goal

pub returns-then-i-n : goal.returns-then-i-n
unfolding metered_spoilt_at
returns-then-i-n c = rw (lt-ltb _ _ c.if-i-n.true) c.metered_spoilt.ensures

pub returns : goal.returns
unfolding metered_spoilt_at
returns c = rw (le-ltb _ _ c.if-i-n.false) c.metered_kept.ensures
