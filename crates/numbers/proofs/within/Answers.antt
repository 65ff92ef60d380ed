-- The code's two tests are the definition's.
use Rattle.numbers.specs.Within.{is_within}
use borrow.Author.Tests.{le-leb, lt-leb}
use Rattle.numbers.proofs.within.Goals as goal

pub returns-then-x-range : goal.returns-then-x-range
unfolding is_within
returns-then-x-range c = rw (lt-leb _ _ c.if-x-range.true)

pub returns : goal.returns
unfolding is_within
returns c = rw (le-leb _ _ c.if-x-range.false)
