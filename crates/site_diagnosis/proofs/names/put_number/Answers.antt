-- The four parts of the text.
use Rattle.ranges.proofs.RangeLaws.{row_most}
use Rattle.site_diagnosis.specs.Names.{number_text}
use Rattle.text.proofs.PutsLaws.{puts_then}
use native.Mathlib.Omega.{arith}
use Rattle.site_diagnosis.proofs.names.put_number.Goals as goal

pub overflow_add-row : goal.overflow_add-row
overflow_add-row c = omega (arith, row_most c.args.section c.args.i, c.row.ensures)

pub returns : goal.returns
unfolding number_text
returns c =
    puts_then c.put_row.ensures
    (puts_then (rw c.row.ensures at c.put_blank_and_decimal.ensures)
    (puts_then c.put.ensures
    c.put_name.ensures))
