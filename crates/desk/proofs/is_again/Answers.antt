-- The tests, one inside the other.
use borrow.Author.Tests.{lt-ltb, le-ltb, eq-eqb, ne_eqb}
use Rattle.desk.specs.Tick.{is_again}
use Rattle.desk.proofs.is_again.Goals as goal

pub returns-then-d-lt-MOST_TRIES : goal.returns-then-d-lt-MOST_TRIES
unfolding is_again
returns-then-d-lt-MOST_TRIES c =
    rw (eq-eqb _ _ c.if-answer-eq0.true, lt-ltb _ _ c.if-d-gt0.true, lt-ltb _ _ c.if-d-lt-MOST_TRIES.true) c.enrolled_at.ensures

pub returns-else-d-lt-MOST_TRIES : goal.returns-else-d-lt-MOST_TRIES
unfolding is_again
returns-else-d-lt-MOST_TRIES c =
    rw (eq-eqb _ _ c.if-answer-eq0.true, lt-ltb _ _ c.if-d-gt0.true, le-ltb _ _ c.if-d-lt-MOST_TRIES.false)

pub returns-else-d-gt0 : goal.returns-else-d-gt0
unfolding is_again
returns-else-d-gt0 c = rw (eq-eqb _ _ c.if-answer-eq0.true, le-ltb _ _ c.if-d-gt0.false)

pub returns-else-answer-eq0 : goal.returns-else-answer-eq0
unfolding is_again
returns-else-answer-eq0 c = rw (ne_eqb _ _ c.if-answer-eq0.false)
