-- The three parts of the line.
use Rattle.tick_diagnosis.specs.Diagnosis.{number_line}
use Rattle.text.proofs.PutsLaws.{puts_then}
use Rattle.tick_diagnosis.proofs.put_number.Goals as goal

pub returns : goal.returns
unfolding number_line
returns c =
    puts_then (rw (c.number.ensures, c.refusal_of.ensures) at c.put_opening.ensures)
    (puts_then c.put_out_of_range.ensures
    c.put_place.ensures)
