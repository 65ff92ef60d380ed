-- The loop's invariant: the search that is left, from what was found so far, ends as the whole does.
use Rattle.plan.proofs.Turns.{takes, skips, ends}
use Rattle.plan.proofs.InForceLaws.{is_in_force}
use Rattle.plan.specs.InForce.{takes_over, in_force_of}
use Rattle.plan.specs.Entry.{entry_of}
use Rattle.plan.specs.declared.Entry.{Entry}
use Prim.Native.Nat.{◌<◌}
use mathlib.Core.Path.{◌≡◌, ap, sym, ◌∙◌}
use borrow.Author.Rules.{rules}
use Rattle.plan.proofs.in_force.Goals as goal
use Rattle.plan.proofs.in_force.Goals.{After-loop-i, then-takes_over, else-takes_over}

found : (c : After-loop-i)
    → let a = c.args in c.loop-i.best ≡ in_force_of a.plan.numbers.now a.plan.count a.day a.minute
unfolding in_force_of
found c =
    let a = c.args in
    sym (ends a.plan.numbers.now a.day a.minute c.loop-i.best c.loop-i.start c.loop-i.i _ c.loop-i-test.false) ∙ c.loop-i.invariant.1

pub loop-i-preserved : goal.loop-i-preserved
loop-i-preserved c =
    let a = c.args in
    let e = c.entry_at-e.ensures in
    let l : c.loop-i.i < a.plan.count = search rules in
    let same : c.takes_over.result ≡ takes_over (entry_of a.plan.numbers.now c.loop-i.i) a.day a.minute c.loop-i.best c.loop-i.start =
    c.takes_over.ensures ∙ ap (λ (x : Entry). takes_over x a.day a.minute c.loop-i.best c.loop-i.start) e in (
      search rules,
      elim c.if-takes_over.branch [
        | then-takes_over w ↦ rw (w.best-is, w.start-is, ap (λ (x : Entry). x.start) e)
            (sym (takes a.plan.numbers.now a.day a.minute c.loop-i.best c.loop-i.start c.loop-i.i _ l (sym same ∙ w.if-takes_over.true)) ∙ c.loop-i.invariant.1)
        | else-takes_over w ↦ rw (w.best-is, w.start-is)
            (sym (skips a.plan.numbers.now a.day a.minute c.loop-i.best c.loop-i.start c.loop-i.i _ l (sym same ∙ w.if-takes_over.false)) ∙ c.loop-i.invariant.1)
      ],
    )

pub returns : goal.returns
returns c = let a = c.args in (record { is = found c; latest = rw (found c) (is_in_force a.plan.numbers.now a.plan.count a.day a.minute) })
