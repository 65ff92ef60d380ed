-- The code's test is the definition's.
use borrow.Author.Tests.{eq-eqb, ne_eqb}
use Rattle.tick_line.specs.Scan.{most_of}
use Rattle.tick_line.proofs.scan.most_of.Goals as goal

pub returns-then-word-eq-TENTH_WORD : goal.returns-then-word-eq-TENTH_WORD
unfolding most_of
returns-then-word-eq-TENTH_WORD c = rw (eq-eqb _ _ c.if-word-eq-TENTH_WORD.true)

pub returns-else-word-eq-TENTH_WORD : goal.returns-else-word-eq-TENTH_WORD
unfolding most_of
returns-else-word-eq-TENTH_WORD c = rw (ne_eqb _ _ c.if-word-eq-TENTH_WORD.false)
