-- The three parts of the line.
use Rattle.site_diagnosis.specs.Diagnosis.{long_line}
use Rattle.text.proofs.PutsLaws.{puts_then}
use Rattle.site_diagnosis.proofs.put_long.Goals as goal

pub returns : goal.returns
unfolding long_line
returns c =
    puts_then (rw c.number.ensures at c.put_opening.ensures)
    (puts_then c.put.ensures
    c.put_place.ensures)
