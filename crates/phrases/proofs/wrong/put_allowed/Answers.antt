-- The word, then the range.
use Rattle.phrases.specs.Wrong.{allowed_text}
use Rattle.text.proofs.PutsLaws.{puts_then}
use Rattle.phrases.proofs.wrong.put_allowed.Goals as goal

pub returns : goal.returns
unfolding allowed_text
returns c =
    puts_then c.put.ensures c.put_range.ensures
