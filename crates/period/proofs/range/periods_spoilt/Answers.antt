-- The code's tests are the definition's, in its order.
use Rattle.period.specs.Range.{periods_spoilt}
use borrow.Author.Tests.{lt-ltb, le-ltb}
use Rattle.period.proofs.range.periods_spoilt.Goals as goal

pub returns-then-p-gt-MOST_OPEN_TICKS : goal.returns-then-p-gt-MOST_OPEN_TICKS
unfolding periods_spoilt
returns-then-p-gt-MOST_OPEN_TICKS c = rw (lt-ltb _ _ c.if-p-gt-MOST_OPEN_TICKS.true)

pub returns-then-counts_spoilt : goal.returns-then-counts_spoilt
unfolding periods_spoilt
returns-then-counts_spoilt c = rw (le-ltb _ _ c.if-p-gt-MOST_OPEN_TICKS.false, ← c.counts_spoilt.ensures, c.if-counts_spoilt.true)

pub returns-then-counts_spoilt-2 : goal.returns-then-counts_spoilt-2
unfolding periods_spoilt
returns-then-counts_spoilt-2 c =
    rw (le-ltb _ _ c.if-p-gt-MOST_OPEN_TICKS.false, ← c.counts_spoilt.ensures, c.if-counts_spoilt.false, ← c.last_ticks.ensures, ← c.counts_spoilt-2.ensures, c.if-counts_spoilt-2.true)

pub returns : goal.returns
unfolding periods_spoilt
returns c =
    rw (le-ltb _ _ c.if-p-gt-MOST_OPEN_TICKS.false, ← c.counts_spoilt.ensures, c.if-counts_spoilt.false, ← c.last_ticks.ensures, ← c.counts_spoilt-2.ensures, c.if-counts_spoilt-2.false) c.spoilt.ensures
