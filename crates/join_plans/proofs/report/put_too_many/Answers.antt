-- One text behind the other.
use Rattle.text.proofs.PutsLaws.{puts_then}
use Rattle.join_plans.specs.Report.{too_many_text}
use Rattle.join_plans.proofs.report.put_too_many.Goals as goal

pub returns : goal.returns
unfolding too_many_text
returns c =
    puts_then (rw c.number.ensures at c.put_refused.ensures)
    (puts_then (rw c.number-2.ensures at c.put_opening.ensures)
    (puts_then c.put_decimal.ensures
    (puts_then c.put.ensures
    (puts_then c.put_allowed.ensures c.put_shares.ensures))))
