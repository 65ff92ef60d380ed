-- The code's test is the definition's.
use Rattle.period.specs.Counting.{closed_of}
use borrow.Author.Tests.{lt-ltb, le-ltb}
use Rattle.period.proofs.count.closed.Goals as goal

pub returns-then-p-lt-MOST_OPEN_TICKS : goal.returns-then-p-lt-MOST_OPEN_TICKS
unfolding closed_of
returns-then-p-lt-MOST_OPEN_TICKS c = rw (lt-ltb _ _ c.if-p-lt-MOST_OPEN_TICKS.true)

pub returns : goal.returns
unfolding closed_of
returns c = rw (le-ltb _ _ c.if-p-lt-MOST_OPEN_TICKS.false, c.closed.ensures, c.next_serial.ensures, c.no_counts.ensures)
