-- The loop's invariant: whatever puts the lines that are left puts all of them.
use Rattle.listing.specs.Timetable.{starting_at}
use Rattle.text.proofs.PutsLaws.{Left}
use Prim.Native.Nat.{◌-◌}
use Rattle.listing.proofs.put_starting.Given as goal

abbrev pub invariant-loop-i : goal.invariant-loop-i
invariant-loop-i l = Left l.initial.out l.out (starting_at l.plan.numbers.now l.day l.minute l.i (l.plan.count - l.i)) (starting_at l.plan.numbers.now l.day l.minute 0 l.plan.count)
