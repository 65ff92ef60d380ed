-- The heading, and the lines.
use Rattle.text.proofs.PutsLaws.{puts_then}
use Rattle.yellow_sheet.specs.Sheet.{sheet_text}
use Rattle.yellow_sheet.proofs.sheet.put_sheet.Goals as goal

pub returns : goal.returns
unfolding sheet_text
returns c =
    puts_then c.put.ensures (puts_then c.put_grades.ensures (puts_then c.put_byte.ensures c.put_speeds.ensures))
