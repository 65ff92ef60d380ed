-- The loop's invariant: whatever puts the lines of the day types that are left puts all of them.
use Rattle.listing.specs.Timetable.{days_from}
use Rattle.text.proofs.PutsLaws.{Left}
use Prim.Native.Nat.{◌-◌}
use Rattle.listing.proofs.put_days.Given as goal

abbrev pub invariant-loop-day : goal.invariant-loop-day
invariant-loop-day l = Left l.initial.out l.out (days_from l.plan.numbers.now l.plan.count l.day (8 - l.day)) (days_from l.plan.numbers.now l.plan.count 0 8)
