-- One text behind the other.
use Rattle.text.proofs.PutsLaws.{puts_then}
use Rattle.join_plans.specs.Report.{dropped_line}
use Rattle.join_plans.proofs.report.put_dropped.Goals as goal

pub returns : goal.returns
unfolding dropped_line
returns c =
    puts_then c.put.ensures
    (puts_then c.put_filed.ensures
    (puts_then c.put-2.ensures
    (puts_then c.put_filed-2.ensures c.put_byte.ensures)))
