-- The two parts of the text.
use Rattle.text.proofs.PutsLaws.{puts_then}
use Rattle.tick_text.specs.Decided.{decision_text}
use Rattle.tick_text.proofs.decided.put_decision.Goals as goal

pub returns : goal.returns
unfolding decision_text
returns c =
    puts_then c.put_ruling.ensures c.put_wished.ensures
