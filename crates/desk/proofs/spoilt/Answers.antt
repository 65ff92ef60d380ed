-- The two tests.
use borrow.Author.Tests.{lt-ltb, le-ltb}
use Rattle.desk.specs.Desk.{spoilt_desk}
use Rattle.desk.proofs.spoilt.Goals as goal

pub returns-then-d-gt-LAST_CABINET : goal.returns-then-d-gt-LAST_CABINET
unfolding spoilt_desk
returns-then-d-gt-LAST_CABINET c = rw (lt-ltb _ _ c.if-d-gt-LAST_CABINET.true)

pub returns : goal.returns
unfolding spoilt_desk
returns c = rw (le-ltb _ _ c.if-d-gt-LAST_CABINET.false)
