-- The three parts of the line.
use Rattle.text.proofs.PutsLaws.{puts_then}
use Rattle.tick_text.specs.Lines.{poll_line}
use Rattle.tick_text.proofs.put_poll.Goals as goal

pub returns : goal.returns
unfolding poll_line
returns c =
    puts_then c.put.ensures
    (puts_then c.put_hex.ensures
    c.put_byte.ensures)
