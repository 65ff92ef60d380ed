-- The three parts of the text.
use Rattle.text.proofs.PutsLaws.{puts_then}
use Rattle.tick_text.specs.Decided.{wished_text}
use Rattle.tick_text.proofs.decided.put_wished.Goals as goal

pub returns : goal.returns
unfolding wished_text
returns c =
    rw (← c.rate_of.ensures)
    (puts_then c.put_blank_and_decimal.ensures
    (puts_then c.put_wish.ensures
    c.put_blank_and_decimal-2.ensures))
