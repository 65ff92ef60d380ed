-- The loop's invariant: whatever puts what is left puts all of it.
use Prim.Native.Nat.{◌-◌}
use Rattle.text.specs.Joined.{joined}
use Rattle.text.proofs.PutsLaws.{Left}
use Rattle.join_plans.specs.Report.{line_for, report_of}
use Rattle.join_plans.proofs.report.put_report.Given as goal

abbrev pub invariant-loop-i : goal.invariant-loop-i
invariant-loop-i l = Left l.initial.out l.out (joined (line_for l.name l.first l.other l.second) l.i (l.first.count - l.i)) (report_of l.name l.first l.other l.second)
