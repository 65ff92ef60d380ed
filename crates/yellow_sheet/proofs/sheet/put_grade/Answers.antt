-- A blank, and the grade.
use mathlib.Core.Path.{◌∙◌, ap}
use lib.IntN.{ℤ}
use mir.Syntax.{w64}
use mir.Val.{to_z, of_z}
use Rattle.text.specs.Decimal.{signed}
use Rattle.text.proofs.PutsLaws.{puts_then, puts_as}
use Rattle.slope.proofs.SizeLaws.{read_back}
use Rattle.yellow_sheet.specs.Sheet.{grade_of, grade_text}
use Rattle.yellow_sheet.proofs.SheetLaws.{grade_size}
use Rattle.yellow_sheet.proofs.sheet.put_grade.Goals as goal

pub returns : goal.returns
unfolding grade_text
returns c =
    let k = c.args.column in
    let e = ap (λ (s : ℤ). to_z w64 (of_z w64 s)) c.grade_of.ensures ∙ read_back (grade_of k) (grade_size k c.requires) in
    puts_then c.put_byte.ensures (puts_as (ap signed e) c.put_signed.ensures)
