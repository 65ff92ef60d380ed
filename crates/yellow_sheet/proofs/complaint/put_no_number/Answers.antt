-- One text behind the other.
use Rattle.text.proofs.PutsLaws.{puts_then}
use Rattle.yellow_sheet.specs.Complaint.{no_number_line}
use Rattle.yellow_sheet.proofs.complaint.put_no_number.Goals as goal

pub returns : goal.returns
unfolding no_number_line
returns c =
    puts_then c.put_given.ensures c.put.ensures
