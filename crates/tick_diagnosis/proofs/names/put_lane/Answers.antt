-- The three parts of the text.
use Rattle.tick_diagnosis.specs.Names.{lane_text}
use Rattle.text.proofs.PutsLaws.{puts_then}
use Rattle.tick_diagnosis.proofs.names.put_lane.Goals as goal

pub returns : goal.returns
unfolding lane_text
returns c =
    puts_then c.put.ensures
    (puts_then c.put_blank_and_decimal.ensures
    c.put-2.ensures)
