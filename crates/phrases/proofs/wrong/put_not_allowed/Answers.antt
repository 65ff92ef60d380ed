-- The number, then what is allowed.
use Rattle.phrases.specs.Wrong.{not_allowed_text}
use Rattle.text.proofs.PutsLaws.{puts_then}
use Rattle.phrases.proofs.wrong.put_not_allowed.Goals as goal

pub returns : goal.returns
unfolding not_allowed_text
returns c =
    puts_then c.put_blank_and_decimal.ensures c.put_allowed.ensures
