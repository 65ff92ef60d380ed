-- The yellow at the column's grade.
use mathlib.Core.Path.{◌≡◌, ◌∙◌, ap}
use borrow.Author.Rules.{rules}
use lib.IntN.{ℤ, pos}
use mir.Syntax.{w64}
use mir.Val.{to_z, of_z}
use mir.Facts.{to_z_pos}
use Rattle.text.proofs.PutsLaws.{puts_as}
use Rattle.slope.proofs.SizeLaws.{read_back}
use Rattle.yellow_sheet.specs.Sheet.{grade_of, yellow_text}
use Rattle.yellow_sheet.proofs.SheetLaws.{grade_size}
use Rattle.yellow_sheet.proofs.sheet.put_yellow.Goals as goal

pub returns : goal.returns
unfolding yellow_text
returns c =
    let k = c.args.column in
    let v : to_z w64 c.args.speed ≡ pos c.args.speed = to_z_pos w64 (search rules) in
    let e = ap (λ (s : ℤ). to_z w64 (of_z w64 s)) c.grade_of.ensures ∙ read_back (grade_of k) (grade_size k c.requires) in
    puts_as (rw (c.ticks_given.ensures, c.yellow_at-yellow.ensures.is, v, e)) c.put_blank_and_seconds.ensures
