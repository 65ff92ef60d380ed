-- Hours, the colon, minutes.
use Rattle.text.proofs.PutsLaws.{puts_then}
use Rattle.entry_text.proofs.put_clock.Goals as goal

pub returns : goal.returns
returns c =
    puts_then c.put_two_digits.ensures (puts_then c.put_byte.ensures c.put_two_digits-2.ensures)
