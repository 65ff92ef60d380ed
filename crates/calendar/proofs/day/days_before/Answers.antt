-- The table is the definition's, and so are the two tests for the leap day.
use Prim.Native.Nat.{◌-◌}
use native.Mathlib.Omega.{arith}
use borrow.Author.Tests.{eq-eqb, ne_eqb, lt-ltb, le-ltb}
use Rattle.calendar.proofs.DateLaws.{table_most}
use Rattle.calendar.specs.Dates.{days_before}
use borrow.Author.Rules.{rules}
use Rattle.calendar.proofs.day.days_before.Goals as goal

pub returns-then-year-ne0 : goal.returns-then-year-ne0
unfolding days_before
returns-then-year-ne0 c = rw (ne_eqb _ _ c.if-year-ne0.true) (omega arith)

pub returns-then-month-le2 : goal.returns-then-month-le2
unfolding days_before
returns-then-month-le2 c = rw (eq-eqb _ _ c.if-year-ne0.false, le-ltb _ _ c.if-month-le2.true) (omega arith)

pub overflow_add-result : goal.overflow_add-result
overflow_add-result c = omega (arith, table_most (c.args.month - 1) (search rules))

pub returns : goal.returns
unfolding days_before
returns c = rw (eq-eqb _ _ c.if-year-ne0.false, lt-ltb _ _ c.if-month-le2.false)
