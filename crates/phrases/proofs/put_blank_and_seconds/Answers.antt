-- The whole seconds, a point, and the tenth.
use Rattle.phrases.specs.Phrases.{blank_and_seconds}
use Rattle.text.proofs.PutsLaws.{puts_then}
use Rattle.phrases.proofs.put_blank_and_seconds.Goals as goal

pub returns : goal.returns
unfolding blank_and_seconds
returns c =
    puts_then c.put_blank_and_decimal.ensures
    (puts_then c.put_byte.ensures c.put_decimal.ensures)
