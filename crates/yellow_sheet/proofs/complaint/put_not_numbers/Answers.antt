-- The speed's line, the grade's and the usage.
use Rattle.text.proofs.PutsLaws.{puts_then}
use Rattle.yellow_sheet.specs.Complaint.{not_numbers}
use Rattle.yellow_sheet.proofs.complaint.put_not_numbers.Goals as goal

pub returns : goal.returns
unfolding not_numbers
returns c =
    puts_then c.put_word.ensures (puts_then c.put_word-2.ensures c.put_usage.ensures)
