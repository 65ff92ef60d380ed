-- The calls are the definition's, which is what the words say.
use Rattle.plan.proofs.PastMidnightLaws.{is_now}
use Rattle.plan.specs.InForce.{in_force_of}
use Rattle.plan.proofs.today.day_and_entry.Goals as goal

pub returns : goal.returns
returns c =
    let a = c.args in (record { day = c.day_type-day.ensures.is; named = c.day_type-day.ensures.named; entry = c.in_force_now.ensures; recent = (λ ok. rw c.in_force_now.ensures (is_now (in_force_of a.plan.numbers.now a.plan.count) a.holidays.numbers.now a.holidays.count a.today a.minute ok)) })
