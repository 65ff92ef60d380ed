-- The loop's invariant: the way that is left, from the day come to, ends as the whole does.
use Rattle.plan.specs.InForce.{in_force_of}
use Rattle.plan.specs.PastMidnight.{days_back, earlier}
use Prim.Native.Nat.{◌-◌}
use mathlib.Core.Path.{◌≡◌}
use Rattle.plan.proofs.today.in_force_now.Given as goal

abbrev pub invariant-loop-back : goal.invariant-loop-back
invariant-loop-back l =
    earlier (in_force_of l.plan.numbers.now l.plan.count) l.holidays.numbers.now l.holidays.count l.date (days_back - l._back) ≡ earlier (in_force_of l.plan.numbers.now l.plan.count) l.holidays.numbers.now l.holidays.count l.initial.date days_back
