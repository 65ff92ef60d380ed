-- Its bytes.
use Rattle.yellow_sheet.specs.Complaint.{usage_line}
use Rattle.yellow_sheet.proofs.complaint.put_usage.Goals as goal

pub returns : goal.returns
unfolding usage_line
returns c =
    c.put.ensures
