-- The three numbers.
use Rattle.text.proofs.PutsLaws.{puts_then}
use Rattle.tick_text.specs.Lines.{interval_text}
use Rattle.tick_text.proofs.put_interval.Goals as goal

pub returns : goal.returns
unfolding interval_text
returns c =
    puts_then (rw c.refusal_number.ensures at c.put_blank_and_decimal.ensures)
    (puts_then c.put_blank_and_decimal-2.ensures
    c.put_blank_and_decimal-3.ensures)
