-- The number that is looked for stands in the section.
use Rattle.site_diagnosis.specs.Wrong.{bad_number_text}
use Rattle.ranges.proofs.RangeLaws.{bad_within}
use lib.ListN.{length}
use native.Mathlib.Omega.{arith}
use Rattle.site_diagnosis.proofs.wrong.put_bad_number.Goals as goal

pub put_out_of_range-requires : goal.put_out_of_range-requires
put_out_of_range-requires c =
    let a = c.args in
    omega (arith, c.first_bad.ensures, bad_within a.section a.v.now (length a.v.now))

pub returns : goal.returns
unfolding bad_number_text
returns c = rw c.first_bad.ensures at c.put_out_of_range.ensures
