-- The four parts of the text.
use Rattle.text.proofs.PutsLaws.{puts_then}
use Rattle.tick_text.specs.Decided.{ruling_text}
use Rattle.tick_text.proofs.decided.put_ruling.Goals as goal

pub returns : goal.returns
unfolding ruling_text
returns c =
    puts_then c.put_byte.ensures
    (puts_then c.put_day_name.ensures
    (puts_then c.put_blank_and_decimal.ensures
    c.put_source.ensures))
