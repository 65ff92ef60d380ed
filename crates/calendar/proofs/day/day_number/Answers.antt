-- A date's numbers are small, and so is the sum.
use native.Mathlib.Omega.{arith}
use Rattle.calendar.proofs.DateLaws.{bounds, before_most}
use Rattle.calendar.specs.Dates.{day_number}
use borrow.Author.Rules.{rules}
use Rattle.calendar.proofs.day.day_number.Goals as goal

pub overflow_sub-years : goal.overflow_sub-years
overflow_sub-years c = omega (arith, bounds _ c.requires)

pub overflow_mul-result : goal.overflow_mul-result
overflow_mul-result c = let b = bounds _ c.requires in omega arith

pub overflow_add-result-2 : goal.overflow_add-result-2
overflow_add-result-2 c = let b = bounds _ c.requires in omega arith

pub days_before-requires : goal.days_before-requires
days_before-requires c = let b = bounds _ c.requires in search rules

pub overflow_add-result-3 : goal.overflow_add-result-3
overflow_add-result-3 c = let b = bounds _ c.requires in let m = before_most c.args.date.year c.args.date.month (omega arith) in omega (arith, c.days_before.ensures)

pub overflow_sub-result : goal.overflow_sub-result
overflow_sub-result c = let b = bounds _ c.requires in omega arith

pub overflow_add-result-4 : goal.overflow_add-result-4
overflow_add-result-4 c = let b = bounds _ c.requires in let m = before_most c.args.date.year c.args.date.month (omega arith) in omega (arith, c.days_before.ensures)

pub returns : goal.returns
unfolding day_number
returns c = rw c.days_before.ensures
