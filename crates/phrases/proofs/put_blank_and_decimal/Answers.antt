-- The blank, then the number.
use Rattle.text.proofs.PutsLaws.{puts_then}
use Rattle.phrases.proofs.put_blank_and_decimal.Goals as goal

pub returns : goal.returns
returns c = puts_then c.put_byte.ensures c.put_decimal.ensures
