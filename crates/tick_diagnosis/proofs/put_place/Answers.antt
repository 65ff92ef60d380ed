-- The three parts of the text.
use Rattle.tick_diagnosis.specs.Diagnosis.{place_text}
use Rattle.text.proofs.PutsLaws.{puts_then}
use Rattle.tick_diagnosis.proofs.put_place.Goals as goal

pub returns : goal.returns
unfolding place_text
returns c =
    puts_then c.put.ensures
    (puts_then c.put_decimal.ensures
    c.put-2.ensures)
