-- As many remain as the definition says.
use Rattle.join_plans.proofs.report.put_remaining.Goals as goal

pub returns : goal.returns
returns c = rw (← c.remaining.ensures.is) c.put_too_many.ensures
