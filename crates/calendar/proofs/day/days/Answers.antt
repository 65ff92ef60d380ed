-- A month that there is not has no day, by `no_days`.
use mathlib.Core.Path.{sym, ◌∙◌}
use borrow.Author.Tests.{not-true, not-false}
use Rattle.numbers.proofs.WithinLaws.{ends}
use Rattle.calendar.specs.Dates.{months}
use Rattle.calendar.proofs.DateLaws.{no_days}
use Rattle.calendar.proofs.day.days.Goals as goal

pub returns-then-not-within : goal.returns-then-not-within
returns-then-not-within c = rw (no_days c.args.year c.args.month (sym c.within.ensures ∙ not-true _ c.if-not-within.true-raw))

pub month_length-requires : goal.month_length-requires
month_length-requires c = ends months _ (sym c.within.ensures ∙ not-false _ c.if-not-within.false-raw)
