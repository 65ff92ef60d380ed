-- The code asks of year, month and day in turn what the definition asks.
use mathlib.Core.Path.{sym, ◌∙◌}
use borrow.Author.Tests.{not-true, not-false}
use Rattle.calendar.specs.Dates.{is_date}
use Rattle.calendar.proofs.day.is_date.Goals as goal

pub returns-then-not-within : goal.returns-then-not-within
unfolding is_date
returns-then-not-within c = rw (sym c.within.ensures ∙ not-true _ c.if-not-within.true-raw)

pub returns-then-not-within-2 : goal.returns-then-not-within-2
unfolding is_date
returns-then-not-within-2 c = rw (sym c.within.ensures ∙ not-false _ c.if-not-within.false-raw, sym c.within-2.ensures ∙ not-true _ c.if-not-within-2.true-raw)

pub returns : goal.returns
unfolding is_date
returns c =
    rw (
      sym c.within.ensures ∙ not-false _ c.if-not-within.false-raw,
      sym c.within-2.ensures ∙ not-false _ c.if-not-within-2.false-raw,
      ← c.days.ensures,
    )
    c.within-3.ensures
