-- The rate, its three cycles and the end of the line.
use Rattle.rate_sheet.specs.Sheet.{rate_line}
use Rattle.text.proofs.PutsLaws.{puts_then}
use Rattle.rate_sheet.proofs.put_rate.Goals as goal

pub returns : goal.returns
unfolding rate_line
returns c =
    puts_then c.put_decimal.ensures
    (rw (← c.cycle.ensures.is, ← c.cycle-2.ensures.is, ← c.cycle-3.ensures.is)
    (puts_then c.put_blank_and_seconds.ensures
    (puts_then c.put_blank_and_seconds-2.ensures (puts_then c.put_blank_and_seconds-3.ensures c.put_byte.ensures))))
