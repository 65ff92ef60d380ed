-- The trade word, then the colon.
use Rattle.phrases.specs.Wrong.{opening_text}
use Rattle.text.proofs.PutsLaws.{puts_then}
use Rattle.phrases.proofs.wrong.put_opening.Goals as goal

pub returns : goal.returns
unfolding opening_text
returns c =
    puts_then c.put_trade_word.ensures c.put.ensures
