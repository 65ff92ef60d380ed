-- The loop's invariant: whatever puts what is left puts all of it.
use Prim.Native.Nat.{◌-◌}
use Rattle.text.specs.Joined.{joined}
use Rattle.text.proofs.PutsLaws.{Left}
use Rattle.yellow_sheet.specs.Sheet.{grade_text, grade_texts}
use Rattle.yellow_sheet.proofs.sheet.put_grades.Given as goal

abbrev pub invariant-loop-column : goal.invariant-loop-column
invariant-loop-column l = Left l.initial.out l.out (joined grade_text l.column (17 - l.column)) grade_texts
