-- Where it is enrolled nothing changes.
use mathlib.Core.Path.{sym, ◌∙◌}
use Rattle.desk.specs.Desk.{with_cabinet}
use Rattle.desk.proofs.with_cabinet.Goals as goal

pub returns-then-enrolled_at : goal.returns-then-enrolled_at
unfolding with_cabinet
returns-then-enrolled_at c = rw (sym c.enrolled_at.ensures ∙ c.if-enrolled_at.true)

pub returns : goal.returns
unfolding with_cabinet
returns c = rw (sym c.enrolled_at.ensures ∙ c.if-enrolled_at.false)
