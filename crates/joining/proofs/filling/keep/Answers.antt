-- The loop's invariant: with the entries left that are kept behind it, the list come to is the whole.
use Rattle.joining.proofs.Turns.{one_entry, no_entry, one_more_entry}
use Rattle.joining.proofs.CoversLaws.{not_covered, covered}
use Rattle.joining.proofs.FillingLaws.{with_all_lem, entries_length, kept_length}
use Rattle.joining.specs.Joining.{entries_from, covering_of, kept}
use Rattle.joining.specs.Filling.{with_entry}
use Rattle.plan.specs.declared.Entry.{Entry}
use Rattle.plan.specs.Entry.{entry_of}
use Prim.Native.Nat.{◌-◌}
use mathlib.Core.List.{[]}
use mathlib.Core.Path.{◌≡◌, refl, ap, sym, ◌∙◌}
use native.Mathlib.Omega.{arith}
use borrow.Author.Rules.{rules}
use Rattle.joining.proofs.filling.keep.Goals as goal
use Rattle.joining.proofs.filling.keep.Goals.{then-covering-eq0, else-covering-eq0}

pub loop-i-init : goal.loop-i-init
loop-i-init c =
    let n = c.args.first.count in
    let e : n - 0 ≡ n = omega arith in
    rw (c.empty-list.ensures, e) (search rules, refl)

pub with_entry-list-requires : goal.with_entry-list-requires
with_entry-list-requires c = omega (arith, c.loop-i.invariant.0, c.requires)

pub loop-i-preserved : goal.loop-i-preserved
loop-i-preserved c =
    let a = c.args in
    let e = entry_of a.first.rows c.loop-i.i in
    let one = one_entry a.first.rows c.loop-i.i a.first.count (search rules) in
    let same : c.covering.result ≡ covering_of a.second.rows e a.second.count =
    c.covering.ensures.is ∙ ap (λ (x : Entry). covering_of a.second.rows x a.second.count) c.entry_at-e.ensures in
    elim c.if-covering-eq0.branch [
      | then-covering-eq0 w ↦ (let l = w.list-is ∙ w.with_entry-list.ensures ∙ ap (λ (x : Entry). with_entry c.loop-i.list x) c.entry_at-e.ensures in
          (rw (l, one_more_entry c.loop-i.list e) (omega (arith, c.loop-i.invariant.0)), rw l (rw (one, not_covered a.second.rows e a.second.count (sym same ∙ w.if-covering-eq0.true)) at c.loop-i.invariant.1)))
      | else-covering-eq0 w ↦ rw w.list-is (omega (arith, c.loop-i.invariant.0), rw (one, covered a.second.rows e a.second.count (λ z. w.if-covering-eq0.false (same ∙ z))) at c.loop-i.invariant.1)
    ]

pub returns : goal.returns
returns c =
    let a = c.args in
    let es = entries_from a.first.rows 0 a.first.count in
    let n = entries_length a.first.rows 0 a.first.count in
    let l = kept_length es (entries_from a.second.rows 0 a.second.count) in
    (rw (no_entry a.first.rows c.loop-i.i a.first.count (search rules)) at c.loop-i.invariant.1)
    ∙ with_all_lem [] (kept es (entries_from a.second.rows 0 a.second.count)) (omega (arith, n, l, c.requires))
