-- The loop's invariant: best is the next start among the entries passed.
use Rattle.plan.specs.declared.Entry.{Entry}
use native.Mathlib.Numerals.{add-one}
use mathlib.Core.Path.{◌≡◌, refl, ap}
use borrow.Author.Rules.{rules}
use Rattle.listing.proofs.next_start.Goals as goal

pub loop-i-init : goal.loop-i-init
loop-i-init c = refl

pub loop-i-preserved : goal.loop-i-preserved
loop-i-preserved c =
    let e = ap (λ (x : Entry). x.start) c.entry_at.ensures in
    rw (add-one, ← e, ← c.loop-i.invariant) c.earlier-best.ensures

pub returns : goal.returns
returns c =
    let e : c.loop-i.i ≡ c.args.plan.count = search rules in
    rw (← e) c.loop-i.invariant
