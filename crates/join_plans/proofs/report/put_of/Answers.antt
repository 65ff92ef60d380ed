-- One text behind the other.
use Rattle.text.proofs.PutsLaws.{puts_then}
use Rattle.join_plans.specs.Report.{of_text}
use Rattle.join_plans.proofs.report.put_of.Goals as goal

pub returns : goal.returns
unfolding of_text
returns c =
    puts_then c.put_decimal.ensures
    (puts_then c.put.ensures c.put-2.ensures)
