-- The code's test is the definition's.
use Rattle.wanted.specs.Wish.{responsive_choice}
use borrow.Author.Tests.{eq-eqb, ne_eqb}
use Rattle.wanted.proofs.wish.responsive_choice.Goals as goal

pub returns-then-p-eq0 : goal.returns-then-p-eq0
unfolding responsive_choice
returns-then-p-eq0 c = rw (eq-eqb _ _ c.if-p-eq0.true)

pub returns : goal.returns
unfolding responsive_choice
returns c = rw (ne_eqb _ _ c.if-p-eq0.false, ← c.measured_on.ensures.is) c.measured_choice.ensures
