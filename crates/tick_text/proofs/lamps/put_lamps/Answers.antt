-- The five parts of the text.
use Rattle.text.proofs.PutsLaws.{puts_then}
use Rattle.tick_text.specs.Lamps.{lamps_text}
use Rattle.tick_text.proofs.lamps.put_lamps.Goals as goal

pub returns : goal.returns
unfolding lamps_text
returns c =
    puts_then c.put_byte.ensures
    (puts_then c.put_word.ensures
    (puts_then c.put_byte-2.ensures
    (puts_then c.put_word-2.ensures
    c.put_blank_and_decimal.ensures)))
