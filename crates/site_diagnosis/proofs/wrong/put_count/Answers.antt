-- The four parts of the text.
use Rattle.site_diagnosis.specs.Wrong.{count_text}
use Rattle.text.proofs.PutsLaws.{puts_then}
use Rattle.site_diagnosis.proofs.wrong.put_count.Goals as goal

pub returns : goal.returns
unfolding count_text
returns c =
    puts_then c.put_decimal.ensures
    (puts_then c.put_byte.ensures
    (puts_then c.put_rows.ensures
    (rw c.counts-counts.ensures.is at c.put_allowed.ensures)))
