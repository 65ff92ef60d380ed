-- The list is the definition's.
use Rattle.phrases.specs.Wrong.{trade_word}
use Rattle.phrases.proofs.wrong.put_trade_word.Goals as goal

pub returns : goal.returns
unfolding trade_word
returns c = c.put_item.ensures
