-- One text behind the other.
use Rattle.text.proofs.PutsLaws.{puts_then}
use Rattle.phrases.specs.Phrases.{refused_line}
use Rattle.phrases.proofs.put_refused.Goals as goal

pub returns : goal.returns
unfolding refused_line
returns c =
    puts_then c.put.ensures (puts_then c.put_decimal.ensures c.put_byte.ensures)
