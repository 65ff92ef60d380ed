-- One text behind the other.
use Rattle.text.proofs.PutsLaws.{puts_then}
use Rattle.entry_text.specs.EntryText.{entry_text}
use Rattle.entry_text.proofs.put_entry.Goals as goal

pub returns : goal.returns
unfolding entry_text
returns c =
    puts_then c.put_days.ensures c.put_timed.ensures
