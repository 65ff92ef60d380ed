-- The code's tests are the definition's.
use Rattle.inputs.specs.Commands.{command_bad}
use borrow.Author.Tests.{lt-ltb, le-ltb, eq-eqb, ne_eqb, not-true, not-false}
use mathlib.Core.Bool.{not}
use mathlib.Core.Path.{ap}
use Rattle.inputs.proofs.command_bad.Goals as goal

pub returns-then-c-eq-NONE : goal.returns-then-c-eq-NONE
unfolding command_bad
returns-then-c-eq-NONE c = rw (eq-eqb _ _ c.if-c-eq-NONE.true) (ap not c.carries_nothing.ensures)

pub returns-then-c-gt-RESPONSIVE : goal.returns-then-c-gt-RESPONSIVE
unfolding command_bad
returns-then-c-gt-RESPONSIVE c = rw (ne_eqb _ _ c.if-c-eq-NONE.false, lt-ltb _ _ c.if-c-gt-RESPONSIVE.true)

pub returns-then-not-within : goal.returns-then-not-within
unfolding command_bad
returns-then-not-within c =
    rw (ne_eqb _ _ c.if-c-eq-NONE.false, le-ltb _ _ c.if-c-gt-RESPONSIVE.false, ← c.rate_range.ensures, ← c.within.ensures, not-true c.within.result c.if-not-within.true-raw)

pub returns : goal.returns
unfolding command_bad
returns c =
    rw (ne_eqb _ _ c.if-c-eq-NONE.false, le-ltb _ _ c.if-c-gt-RESPONSIVE.false, ← c.rate_range.ensures, ← c.within.ensures, not-false c.within.result c.if-not-within.false-raw, ← c.table_range.ensures) (ap not c.within-2.ensures)
