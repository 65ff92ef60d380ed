-- The code's tests are the definition's.
use Rattle.wanted.specs.Wish.{choice_of}
use borrow.Author.Tests.{eq-eqb, ne_eqb}
use Rattle.wanted.proofs.wish.chosen.Goals as goal

pub returns-then-c-eq-GREEN : goal.returns-then-c-eq-GREEN
unfolding choice_of
returns-then-c-eq-GREEN c = rw (eq-eqb _ _ c.if-c-eq-GREEN.true)

pub returns-then-c-eq-FIXED : goal.returns-then-c-eq-FIXED
unfolding choice_of
returns-then-c-eq-FIXED c = rw (ne_eqb _ _ c.if-c-eq-GREEN.false, eq-eqb _ _ c.if-c-eq-FIXED.true)

pub returns-then-c-eq-RESPONSIVE : goal.returns-then-c-eq-RESPONSIVE
unfolding choice_of
returns-then-c-eq-RESPONSIVE c = rw (ne_eqb _ _ c.if-c-eq-GREEN.false, ne_eqb _ _ c.if-c-eq-FIXED.false, eq-eqb _ _ c.if-c-eq-RESPONSIVE.true) c.responsive_choice.ensures

pub returns : goal.returns
unfolding choice_of
returns c = rw (ne_eqb _ _ c.if-c-eq-GREEN.false, ne_eqb _ _ c.if-c-eq-FIXED.false, ne_eqb _ _ c.if-c-eq-RESPONSIVE.false)
