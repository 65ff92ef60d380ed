-- The code's test is the definition's.
use borrow.Author.Tests.{lt-ltb, le-ltb}
use Rattle.tick_line.specs.Scan.{place_of}
use Rattle.tick_line.proofs.scan.place_of.Goals as goal

pub returns-then-words-lt-BEFORE_TENTH : goal.returns-then-words-lt-BEFORE_TENTH
unfolding place_of
returns-then-words-lt-BEFORE_TENTH c = rw (lt-ltb _ _ c.if-words-lt-BEFORE_TENTH.true)

pub returns : goal.returns
unfolding place_of
returns c = rw (le-ltb _ _ c.if-words-lt-BEFORE_TENTH.false) c.one_more.ensures
