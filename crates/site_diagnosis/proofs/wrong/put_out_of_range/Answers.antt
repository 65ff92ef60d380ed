-- The three parts of the text.
use Rattle.site_diagnosis.specs.Wrong.{out_of_range_text}
use Rattle.text.proofs.PutsLaws.{puts_then}
use Rattle.site_diagnosis.proofs.wrong.put_out_of_range.Goals as goal

pub returns : goal.returns
unfolding out_of_range_text
returns c =
    puts_then c.put_number.ensures
    (puts_then (rw (c.number_at-x.ensures, c.range_at-range.ensures) at c.put_not_allowed.ensures)
    c.put_unused.ensures)
