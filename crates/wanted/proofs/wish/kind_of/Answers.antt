-- The code's test is the definition's.
use Rattle.wanted.specs.Wish.{kind_of}
use borrow.Author.Tests.{lt-ltb, le-ltb}
use Rattle.wanted.proofs.wish.kind_of.Goals as goal

pub returns-then-mode-lt3 : goal.returns-then-mode-lt3
unfolding kind_of
returns-then-mode-lt3 c = rw (lt-ltb _ _ c.if-mode-lt3.true)

pub returns-else-mode-lt3 : goal.returns-else-mode-lt3
unfolding kind_of
returns-else-mode-lt3 c = rw (le-ltb _ _ c.if-mode-lt3.false)
