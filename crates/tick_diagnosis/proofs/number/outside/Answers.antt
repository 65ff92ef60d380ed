-- The code's two tests are the definition's.
use borrow.Author.Tests.{le-leb, leb-true, leb-false, lt-ltb, le-ltb}
use lib.Dec.{leb}
use Rattle.loops.proofs.Cases.{by_test}
use Rattle.numbers.specs.Within.{is_within}
use Rattle.loops.proofs.Rules.{tests}
use Rattle.tick_diagnosis.proofs.number.outside.Goals as goal

pub returns-then-x-low : goal.returns-then-x-low
unfolding is_within
returns-then-x-low c = search tests

pub returns-else-x-low : goal.returns-else-x-low
unfolding is_within
returns-else-x-low c =
    let a = c.args in
    rw (le-leb a.low a.x c.if-x-low.false)
    (by_test (leb a.x a.high)
    (λ e. rw (e, le-ltb a.high a.x (leb-true a.x a.high e)))
    (λ e. rw (e, lt-ltb a.high a.x (leb-false a.x a.high e))))
