-- One text behind the other.
use mathlib.Core.Path.{ap}
use mir.Facts.{to_z-of_z}
use Rattle.text.specs.Decimal.{signed}
use Rattle.text.proofs.PutsLaws.{puts_then, puts_as}
use Rattle.yellow_sheet.specs.Answer.{yellow_line}
use Rattle.yellow_sheet.proofs.answer.put_line.Goals as goal

pub returns : goal.returns
unfolding yellow_line
returns c =
    puts_then c.put_ticks.ensures (puts_then c.put.ensures (puts_then (puts_as (ap signed (to_z-of_z c.ranges.speed)) c.put_signed.ensures) (puts_then c.put-2.ensures (puts_then (puts_as (ap signed (to_z-of_z c.ranges.grade)) c.put_signed-2.ensures) c.put-3.ensures))))
