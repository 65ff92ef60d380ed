-- The loop's invariant: whatever puts what is left puts all of it.
use borrow.Author.Rules.{rules}
use Rattle.text.proofs.JoinedLaws.{joined_turn, joined_end}
use Rattle.text.proofs.PutsLaws.{left_at_start, left_turn, left_end}
use Rattle.yellow_sheet.specs.Sheet.{grade_text}
use Rattle.yellow_sheet.proofs.sheet.put_grades.Goals as goal

pub loop-column-init : goal.loop-column-init
loop-column-init c = left_at_start

pub loop-column-preserved : goal.loop-column-preserved
loop-column-preserved c = left_turn c.loop-column.invariant c.put_grade.ensures (joined_turn grade_text 17 c.loop-column.column (search rules))

pub returns : goal.returns
returns c =
    left_end c.loop-column.invariant (joined_end grade_text 17 c.loop-column.column (search rules))
