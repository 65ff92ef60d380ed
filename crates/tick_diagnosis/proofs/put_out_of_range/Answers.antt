-- The three parts of the text.
use Rattle.tick_diagnosis.specs.Diagnosis.{out_of_range_text}
use Rattle.text.proofs.PutsLaws.{puts_then}
use Rattle.tick_diagnosis.proofs.put_out_of_range.Goals as goal

pub returns : goal.returns
unfolding out_of_range_text
returns c =
    puts_then c.put_part.ensures
    (puts_then c.put_name.ensures
    c.put_not_allowed.ensures)
