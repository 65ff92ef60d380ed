-- The speed's line and the grade's.
use mathlib.Core.Path.{◌∙◌, ap}
use mathlib.Core.Bool.{Bool}
use mir.Facts.{to_z-of_z}
use Rattle.text.specs.Ascii.{ascii}
use Rattle.text.proofs.PutsLaws.{puts_then, puts_as}
use Rattle.slope.specs.Slope.{least_speed, most_speed, speed_in, grade_in}
use Rattle.yellow_sheet.specs.Complaint.{range_line, unless_in, ranges_of}
use Rattle.yellow_sheet.proofs.complaint.put_ranges.Goals as goal

pub returns : goal.returns
unfolding ranges_of
returns c =
    let swift = c.speed_in-swift.ensures ∙ ap speed_in (to_z-of_z c.ranges.v) in
    let steep = c.grade_in-steep.ensures ∙ ap grade_in (to_z-of_z c.ranges.s) in
    let line = range_line (ascii "speed") c.args.speed.now least_speed (ascii "-") most_speed in
    puts_then (puts_as (ap (λ (good : Bool). unless_in good line) swift) c.put_unless.ensures)
    (puts_as (rw steep) c.put_unless-2.ensures)
