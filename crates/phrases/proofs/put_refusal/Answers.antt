-- The five parts of the line.
use Rattle.phrases.specs.Phrases.{refusal_line}
use Rattle.text.proofs.PutsLaws.{puts_then}
use Rattle.phrases.proofs.put_refusal.Goals as goal

pub returns : goal.returns
unfolding refusal_line
returns c =
    puts_then c.put.ensures
    (puts_then c.put_decimal.ensures
    (puts_then c.put-2.ensures (puts_then c.put_decimal-2.ensures c.put-3.ensures)))
