-- Where it is not enrolled nothing changes.
use mathlib.Core.Path.{sym, ◌∙◌}
use Rattle.desk.specs.Desk.{without_cabinet}
use Rattle.desk.proofs.without_cabinet.Goals as goal

pub returns-then-enrolled_at : goal.returns-then-enrolled_at
unfolding without_cabinet
returns-then-enrolled_at c = rw (sym c.enrolled_at.ensures ∙ c.if-enrolled_at.true, c.tries_without-tries.ensures)

pub returns : goal.returns
unfolding without_cabinet
returns c = rw (sym c.enrolled_at.ensures ∙ c.if-enrolled_at.false)
