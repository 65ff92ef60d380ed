-- One text behind the other.
use Rattle.text.proofs.PutsLaws.{puts_then}
use Rattle.yellow_sheet.specs.Complaint.{wrong_count}
use Rattle.yellow_sheet.proofs.complaint.put_wrong_count.Goals as goal

pub returns : goal.returns
unfolding wrong_count
returns c =
    puts_then c.put_wanted.ensures c.put_usage.ensures
