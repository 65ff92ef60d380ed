-- The code's test is the definition's.
use Rattle.wanted.specs.Wish.{level_choice}
use borrow.Author.Tests.{eq-eqb, ne_eqb}
use Rattle.wanted.proofs.wish.level_choice.Goals as goal

pub returns-then-place-eq0 : goal.returns-then-place-eq0
unfolding level_choice
returns-then-place-eq0 c = rw (eq-eqb _ _ c.if-place-eq0.true)

pub returns : goal.returns
unfolding level_choice
returns c = rw (ne_eqb _ _ c.if-place-eq0.false, c.level_at-l.ensures)
