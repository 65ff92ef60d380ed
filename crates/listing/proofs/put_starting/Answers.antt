-- The loop's invariant: whatever puts the lines that are left puts all of them.
use Rattle.listing.proofs.Turns.{entries_turn}
use Rattle.text.proofs.PutsLaws.{left_turn, left_end}
use Prim.Native.Nat.{◌-◌}
use mathlib.Core.Path.{◌≡◌}
use borrow.Author.Rules.{rules}
use native.Mathlib.Omega.{arith}
use Rattle.listing.proofs.put_starting.Goals as goal

pub loop-i-init : goal.loop-i-init
loop-i-init c = let e : c.args.plan.count - 0 ≡ c.args.plan.count = omega arith in λ t g. rw e at g

pub loop-i-preserved : goal.loop-i-preserved
loop-i-preserved c =
    let a = c.args in
    let e = c.entry_at-e.ensures in left_turn c.loop-i.invariant (rw e at c.put_line_if.ensures) (entries_turn a.plan.numbers.now a.day a.minute a.plan.count c.loop-i.i (search rules))

pub returns : goal.returns
returns c =
    let z : c.args.plan.count - c.loop-i.i ≡ 0 = omega arith in
    left_end c.loop-i.invariant (rw z)
