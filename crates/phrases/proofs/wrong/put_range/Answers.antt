-- The code's test is the definition's.
use Rattle.phrases.specs.Wrong.{range_text}
use Rattle.text.proofs.PutsLaws.{puts_then}
use borrow.Author.Tests.{eq-eqb, ne_eqb}
use Rattle.phrases.proofs.wrong.put_range.Goals as goal

pub returns-then-low-high : goal.returns-then-low-high
unfolding range_text
returns-then-low-high c = rw (eq-eqb _ _ c.if-low-high.true) c.put_decimal.ensures

pub returns : goal.returns
unfolding range_text
returns c =
    rw (ne_eqb _ _ c.if-low-high.false)
    (puts_then c.put_decimal.ensures (puts_then c.put_byte.ensures c.put_decimal-2.ensures))
