-- One text behind the other.
use Rattle.text.proofs.PutsLaws.{puts_then}
use Rattle.yellow_sheet.specs.Complaint.{given_text}
use Rattle.yellow_sheet.proofs.complaint.put_given.Goals as goal

pub returns : goal.returns
unfolding given_text
returns c =
    puts_then c.put.ensures (puts_then c.put_byte.ensures c.put-2.ensures)
