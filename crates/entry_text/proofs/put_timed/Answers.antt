-- One text behind the other.
use Rattle.text.proofs.PutsLaws.{puts_then}
use Rattle.entry_text.specs.EntryText.{timed_text}
use Rattle.entry_text.proofs.put_timed.Goals as goal

pub returns : goal.returns
unfolding timed_text
returns c =
    puts_then c.put_clock.ensures
    (puts_then c.put_byte.ensures
    (puts_then c.put_mode_name.ensures
    (puts_then c.put_blank_and_decimal.ensures c.put_blank_and_decimal-2.ensures)))
