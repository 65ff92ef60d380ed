-- The two cases.
use borrow.Author.Tests.{lt-ltb, le-ltb}
use Rattle.turns.specs.Turn.{next_of}
use Rattle.desk.proofs.next_place.Goals as goal

pub returns-then-place-lt-CABINETS : goal.returns-then-place-lt-CABINETS
unfolding next_of
returns-then-place-lt-CABINETS c = rw (lt-ltb _ _ c.if-place-lt-CABINETS.true)

pub returns-else-place-lt-CABINETS : goal.returns-else-place-lt-CABINETS
unfolding next_of
returns-else-place-lt-CABINETS c = rw (le-ltb _ _ c.if-place-lt-CABINETS.false)
