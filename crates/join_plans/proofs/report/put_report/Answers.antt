-- The loop's invariant: whatever puts what is left puts all of it.
use Prim.Native.Nat.{◌-◌}
use mathlib.Core.Path.{◌≡◌}
use native.Mathlib.Omega.{arith}
use borrow.Author.Rules.{rules}
use Rattle.text.proofs.JoinedLaws.{joined_turn, joined_end}
use Rattle.text.proofs.PutsLaws.{left_at_start, left_turn, left_end}
use Rattle.join_plans.specs.Report.{line_for}
use Rattle.join_plans.proofs.report.put_report.Goals as goal

pub loop-i-init : goal.loop-i-init
loop-i-init c =
    let n = c.args.first.count in
    let e : n - 0 ≡ n = omega arith in
    rw e left_at_start

pub loop-i-preserved : goal.loop-i-preserved
loop-i-preserved c = left_turn c.loop-i.invariant c.put_line.ensures (joined_turn (line_for _ _ _ _) _ c.loop-i.i (search rules))

pub returns : goal.returns
returns c =
    let a = c.args in
    left_end c.loop-i.invariant (joined_end (line_for a.name.now a.first a.other.now a.second) a.first.count c.loop-i.i (search rules))
