-- The loop's invariant: whatever puts the lines of the rates that are left puts all of them.
use Rattle.rate_sheet.specs.Sheet.{rate_line, rate_lines}
use Rattle.text.specs.Joined.{joined}
use Rattle.text.proofs.PutsLaws.{Left}
use Prim.Native.Nat.{◌-◌}
use Rattle.rate_sheet.proofs.put_rates.Given as goal

abbrev pub invariant-loop-rate : goal.invariant-loop-rate
invariant-loop-rate l = Left l.initial.out l.out (joined rate_line l.rate (1801 - l.rate)) rate_lines
