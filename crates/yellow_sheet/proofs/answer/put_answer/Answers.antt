-- The line of a yellow that is given, or the refusal.
use mathlib.Core.Path.{◌≡◌, ◌∙◌}
use mir.Facts.{to_z-of_z}
use Rattle.std.specs.Prelude.{Ok, Err}
use Rattle.text.proofs.PutsLaws.{puts_as}
use Rattle.slope.specs.Slope.{yellow_at}
use Rattle.yellow_sheet.specs.Answer.{answer_to}
use Rattle.yellow_sheet.proofs.answer.put_answer.Goals as goal

pub returns-in-Ok : goal.returns-in-Ok
unfolding answer_to
returns-in-Ok c =
    let v = to_z-of_z c.ranges.speed in
    let s = to_z-of_z c.ranges.grade in
    let e : Ok c.in-Ok.ticks ≡ yellow_at c.args.speed c.args.grade = c.in-Ok.ensures.is ∙ rw (v, s) in
    rw (← e) (puts_as (rw (v, s)) c.put_line.ensures)

pub returns-in-Err : goal.returns-in-Err
unfolding answer_to
returns-in-Err c =
    let v = to_z-of_z c.ranges.speed in
    let s = to_z-of_z c.ranges.grade in
    let e : Err c.in-Err.refusal ≡ yellow_at c.args.speed c.args.grade = c.in-Err.ensures.is ∙ rw (v, s) in
    rw (← e) (rw c.number.ensures at c.put_refused.ensures)
