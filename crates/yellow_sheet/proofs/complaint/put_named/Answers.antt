-- One text behind the other.
use Rattle.text.proofs.PutsLaws.{puts_then}
use Rattle.yellow_sheet.specs.Complaint.{named_line}
use Rattle.yellow_sheet.proofs.complaint.put_named.Goals as goal

pub returns : goal.returns
unfolding named_line
returns c =
    puts_then c.put.ensures (puts_then c.put-2.ensures c.put-3.ensures)
