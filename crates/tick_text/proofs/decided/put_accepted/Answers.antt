-- The four parts of the text.
use Rattle.text.proofs.PutsLaws.{puts_then}
use Rattle.tick_text.specs.Decided.{accepted_text}
use Rattle.tick_text.proofs.decided.put_accepted.Goals as goal

pub returns : goal.returns
unfolding accepted_text
returns c =
    puts_then c.put_decision.ensures
    (puts_then c.put_blank_and_decimal.ensures
    (puts_then c.put_blank_and_decimal-2.ensures
    c.put_bypass.ensures))
