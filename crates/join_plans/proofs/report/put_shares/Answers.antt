-- One text behind the other.
use Rattle.text.proofs.PutsLaws.{puts_then}
use Rattle.join_plans.specs.Report.{shares_text}
use Rattle.join_plans.proofs.report.put_shares.Goals as goal

pub returns : goal.returns
unfolding shares_text
returns c =
    puts_then c.put.ensures
    (puts_then c.put_of.ensures
    (puts_then c.put-2.ensures
    (puts_then c.put_of-2.ensures c.put-3.ensures)))
