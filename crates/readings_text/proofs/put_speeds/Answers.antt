-- The three parts of the line.
use Rattle.text.proofs.PutsLaws.{puts_then}
use Rattle.readings_text.specs.Line.{speeds_line}
use Rattle.readings_text.proofs.put_speeds.Goals as goal

pub returns : goal.returns
unfolding speeds_line
returns c =
    puts_then c.put.ensures
    (puts_then c.put_lanes.ensures
    c.put_byte.ensures)
