-- One text behind the other.
use Rattle.text.proofs.PutsLaws.{puts_then}
use Rattle.phrases.specs.Phrases.{wanted_line}
use Rattle.phrases.proofs.put_wanted.Goals as goal

pub returns : goal.returns
unfolding wanted_line
returns c =
    puts_then c.put_decimal.ensures
    (puts_then c.put_arguments.ensures
    (puts_then c.put.ensures c.put-2.ensures))
