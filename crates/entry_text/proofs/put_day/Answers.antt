-- A name and a blank, or nothing.
use mathlib.Core.Path.{sym, ◌∙◌}
use borrow.Author.Tests.{not-true, not-false}
use Rattle.text.proofs.PutsLaws.{puts_then, puts_nothing}
use Rattle.entry_text.specs.EntryText.{day_text}
use Rattle.entry_text.proofs.put_day.Goals as goal

pub returns-then-not-on_day : goal.returns-then-not-on_day
unfolding day_text
returns-then-not-on_day c = rw (sym c.on_day.ensures ∙ not-true _ c.if-not-on_day.true-raw) puts_nothing

pub returns : goal.returns
unfolding day_text
returns c =
    rw (sym c.on_day.ensures ∙ not-false _ c.if-not-on_day.false-raw) (puts_then c.put_day_name.ensures c.put_byte.ensures)
