-- The loop's invariant: whatever puts the lines of the day types that are left puts all of them.
use Rattle.listing.proofs.Turns.{days_turn, days_end}
use Rattle.text.proofs.PutsLaws.{left_at_start, left_turn, left_end}
use borrow.Author.Rules.{rules}
use Rattle.listing.proofs.put_days.Goals as goal

pub loop-day-init : goal.loop-day-init
loop-day-init c = left_at_start

pub loop-day-preserved : goal.loop-day-preserved
loop-day-preserved c =
    let a = c.args in left_turn c.loop-day.invariant c.put_day.ensures (days_turn a.plan.numbers.now a.plan.count c.loop-day.day (search rules))

pub returns : goal.returns
returns c =
    let a = c.args in
    left_end c.loop-day.invariant (days_end a.plan.numbers.now a.plan.count c.loop-day.day (search rules))
