-- The loop's invariant: whatever puts what is left puts all of it.
use Prim.Native.Nat.{◌-◌}
use Rattle.text.specs.Joined.{joined}
use Rattle.text.proofs.PutsLaws.{Left}
use Rattle.yellow_sheet.specs.Sheet.{speed_line, speed_lines}
use Rattle.yellow_sheet.proofs.sheet.put_speeds.Given as goal

abbrev pub invariant-loop-speed : goal.invariant-loop-speed
invariant-loop-speed l = Left l.initial.out l.out (joined speed_line l.speed (81 - l.speed)) speed_lines
