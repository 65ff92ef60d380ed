-- The loop's invariant: whatever puts the day's lines from the next start on puts all of them.
use Rattle.listing.specs.Timetable.{minutes_from}
use Rattle.text.proofs.PutsLaws.{Left}
use Prim.Native.Nat.{◌≤◌, ◌-◌}
use Rattle.listing.proofs.put_day.Given as goal

abbrev pub invariant-loop-start : goal.invariant-loop-start
invariant-loop-start l =
    (l.start ≤ 1440)
    × Left l.initial.out l.out (minutes_from l.plan.numbers.now l.plan.count l.day l.start (1440 - l.start)) (minutes_from l.plan.numbers.now l.plan.count l.day 0 1440)

abbrev pub decreases-loop-start : goal.decreases-loop-start
decreases-loop-start l = 1440 - l.start
