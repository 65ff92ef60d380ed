-- One text behind the other.
use mathlib.Core.Path.{ap}
use mir.Facts.{to_z-of_z}
use Rattle.text.specs.Decimal.{signed}
use Rattle.text.proofs.PutsLaws.{puts_then, puts_as}
use Rattle.yellow_sheet.specs.Complaint.{range_line}
use Rattle.yellow_sheet.proofs.complaint.put_range.Goals as goal

pub returns : goal.returns
unfolding range_line
returns c =
    puts_then (rw c.number.ensures at c.put_opening.ensures) (puts_then c.put_given.ensures (puts_then c.put.ensures (puts_then (puts_as (ap signed (to_z-of_z c.ranges.low)) c.put_signed.ensures) (puts_then c.put-2.ensures (puts_then (puts_as (ap signed (to_z-of_z c.ranges.high)) c.put_signed-2.ensures) c.put_byte.ensures)))))
