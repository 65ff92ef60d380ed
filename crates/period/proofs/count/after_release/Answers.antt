-- The green enters the open period, or the one just closed.
use Rattle.period.specs.Counting.{after_release}
use borrow.Author.Tests.{eq-eqb, ne_eqb}
use Rattle.period.proofs.count.after_release.Goals as goal

pub returns-then-released-eq0 : goal.returns-then-released-eq0
unfolding after_release
returns-then-released-eq0 c = rw (eq-eqb _ _ c.if-released-eq0.true)

pub green_counted-requires : goal.green_counted-requires
green_counted-requires c = λ i h. (c.requires i h).1

pub returns-then-p-eq0 : goal.returns-then-p-eq0
unfolding after_release
returns-then-p-eq0 c = rw (ne_eqb _ _ c.if-released-eq0.false, eq-eqb _ _ c.if-p-eq0.true, c.green_counted.ensures)

pub green_counted-requires-2 : goal.green_counted-requires-2
green_counted-requires-2 c = λ i h. (c.requires i h).0

pub returns : goal.returns
unfolding after_release
returns c = rw (ne_eqb _ _ c.if-released-eq0.false, ne_eqb _ _ c.if-p-eq0.false, c.green_counted-2.ensures)
