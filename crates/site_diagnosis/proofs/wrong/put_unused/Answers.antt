-- The code's test is the definition's.
use Rattle.site_diagnosis.specs.Wrong.{unused_text}
use Rattle.text.proofs.PutsLaws.{puts_then, puts_nothing}
use mathlib.Core.Path.{sym, ◌∙◌}
use Rattle.site_diagnosis.proofs.wrong.put_unused.Goals as goal

pub returns-then-may_be_unused : goal.returns-then-may_be_unused
unfolding unused_text
returns-then-may_be_unused c =
    rw (sym c.may_be_unused.ensures ∙ c.if-may_be_unused.true) (puts_then c.put.ensures c.put_decimal.ensures)

pub returns : goal.returns
unfolding unused_text
returns c = rw (sym c.may_be_unused.ensures ∙ c.if-may_be_unused.false) puts_nothing
