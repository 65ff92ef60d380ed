-- One argument, or several.
use borrow.Author.Tests.{eq-eqb, ne_eqb}
use Rattle.phrases.specs.Phrases.{arguments_text}
use Rattle.phrases.proofs.put_arguments.Goals as goal

pub returns-then-count-eq1 : goal.returns-then-count-eq1
unfolding arguments_text
returns-then-count-eq1 c = rw (eq-eqb _ _ c.if-count-eq1.true) c.put.ensures

pub returns : goal.returns
unfolding arguments_text
returns c = rw (ne_eqb _ _ c.if-count-eq1.false) c.put-2.ensures
