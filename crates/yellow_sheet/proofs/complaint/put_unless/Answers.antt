-- A line where the number is out of range.
use mir.Facts.{to_z-of_z}
use Rattle.text.proofs.PutsLaws.{puts_nothing, puts_as}
use Rattle.yellow_sheet.specs.Complaint.{unless_in}
use Rattle.yellow_sheet.proofs.complaint.put_unless.Goals as goal

pub returns-then-good : goal.returns-then-good
unfolding unless_in
returns-then-good c = rw c.if-good.true puts_nothing

pub returns : goal.returns
unfolding unless_in
returns c =
    rw c.if-good.false (puts_as (rw (to_z-of_z c.ranges.low, to_z-of_z c.ranges.high)) c.put_range.ensures)
