-- The loop's invariant: those counted, and those kept of the entries left, are as many as are kept of all.
use Rattle.joining.proofs.Turns.{one_entry, no_entry}
use Rattle.joining.proofs.Words.{kept_remain}
use Rattle.joining.proofs.CoversLaws.{not_covered, covered}
use Rattle.joining.specs.Joining.{entries_of, covering_of, kept}
use Rattle.plan.specs.declared.Entry.{Entry}
use Rattle.plan.specs.Entry.{entry_of}
use Prim.Native.Nat.{◌-◌}
use mathlib.Core.Path.{◌≡◌, ap, sym, ◌∙◌}
use native.Mathlib.Omega.{arith}
use lib.ListN.{length}
use borrow.Author.Rules.{rules}
use Rattle.joining.proofs.remaining.Goals as goal
use Rattle.joining.proofs.remaining.Goals.{then-covering-eq0, else-covering-eq0}

pub loop-i-init : goal.loop-i-init
loop-i-init c = let n = c.args.first.count in let e : n - 0 ≡ n = omega arith in rw e (search rules, omega arith)

pub loop-i-preserved : goal.loop-i-preserved
loop-i-preserved c =
    let a = c.args in
    let e = entry_of a.first.rows c.loop-i.i in
    let one = one_entry a.first.rows c.loop-i.i a.first.count (search rules) in
    let same : c.covering.result ≡ covering_of a.second.rows e a.second.count =
    c.covering.ensures.is ∙ ap (λ (x : Entry). covering_of a.second.rows x a.second.count) c.entry_at-e.ensures in
    elim c.if-covering-eq0.branch [
      | then-covering-eq0 w ↦ (let left = (rw (one, not_covered a.second.rows e a.second.count (sym same ∙ w.if-covering-eq0.true)) at c.loop-i.invariant.1) in rw w.many-is (omega (arith, c.loop-i.invariant.0), omega arith))
      | else-covering-eq0 w ↦ (let left = (rw (one, covered a.second.rows e a.second.count (λ z. w.if-covering-eq0.false (same ∙ z))) at c.loop-i.invariant.1) in rw w.many-is (omega (arith, c.loop-i.invariant.0), left))
    ]

pub returns : goal.returns
returns c =
    let a = c.args in
    let left = (rw (no_entry a.first.rows c.loop-i.i a.first.count (search rules)) at c.loop-i.invariant.1) in
    let all : c.loop-i.many ≡ length (kept (entries_of a.first) (entries_of a.second)) = omega arith in (record { is = all; words = kept_remain a.first a.second _ all })
