-- The code's two tests are the definition's.
use Rattle.listing.specs.Timetable.{line_if}
use Rattle.text.proofs.PutsLaws.{puts_nothing}
use borrow.Author.Tests.{eq-eqb, ne_eqb, not-true, not-false}
use mathlib.Core.Path.{sym, ◌∙◌}
use Rattle.listing.proofs.line.put_line_if.Goals as goal

pub returns-then-not-on_day : goal.returns-then-not-on_day
unfolding line_if
returns-then-not-on_day c = rw (sym c.on_day.ensures ∙ not-true _ c.if-not-on_day.true-raw) puts_nothing

pub returns-then-e-minute : goal.returns-then-e-minute
unfolding line_if
returns-then-e-minute c = rw (sym c.on_day.ensures ∙ not-false _ c.if-not-on_day.false-raw, ne_eqb _ _ c.if-e-minute.true) puts_nothing

pub returns : goal.returns
unfolding line_if
returns c =
    rw (sym c.on_day.ensures ∙ not-false _ c.if-not-on_day.false-raw, eq-eqb _ _ c.if-e-minute.false) c.put_line.ensures
