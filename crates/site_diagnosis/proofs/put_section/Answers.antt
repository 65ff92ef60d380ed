-- The three parts of the line.
use Rattle.site_diagnosis.specs.Diagnosis.{section_line}
use Rattle.text.proofs.PutsLaws.{puts_then}
use Rattle.site_diagnosis.proofs.put_section.Goals as goal

pub returns : goal.returns
unfolding section_line
returns c =
    puts_then (rw c.number.ensures at c.put_opening.ensures)
    (puts_then c.put_wrong.ensures
    c.put_place.ensures)
