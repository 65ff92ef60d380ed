-- One text behind the other.
use Rattle.text.proofs.PutsLaws.{puts_then}
use Rattle.join_plans.specs.Report.{filed_text}
use Rattle.join_plans.proofs.report.put_filed.Goals as goal

pub returns : goal.returns
unfolding filed_text
returns c =
    puts_then c.put_entry.ensures
    (puts_then c.put.ensures
    (puts_then c.put-2.ensures
    (puts_then c.put-3.ensures
    (puts_then c.put_decimal.ensures c.put_byte.ensures))))
