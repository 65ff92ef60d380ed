-- One text behind the other.
use Rattle.text.proofs.PutsLaws.{puts_then}
use Rattle.yellow_sheet.specs.Sheet.{speed_line}
use Rattle.yellow_sheet.proofs.sheet.put_speed.Goals as goal

pub returns : goal.returns
unfolding speed_line
returns c =
    puts_then c.put_decimal.ensures (puts_then c.put_yellows.ensures c.put_byte.ensures)
