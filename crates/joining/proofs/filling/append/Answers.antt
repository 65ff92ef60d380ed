-- The loop's invariant: with the entries left behind it, the list come to is the whole.
use Rattle.joining.proofs.Turns.{one_entry, no_entry, one_more_entry}
use Rattle.joining.specs.Filling.{with_entry, with_all}
use Rattle.plan.specs.declared.Entry.{Entry}
use Rattle.plan.specs.Entry.{entry_of}
use Prim.Native.Nat.{◌-◌}
use mathlib.Core.Path.{◌≡◌, ap, sym, ◌∙◌}
use native.Mathlib.Omega.{arith}
use borrow.Author.Rules.{rules}
use Rattle.joining.proofs.filling.append.Goals as goal

pub loop-i-init : goal.loop-i-init
loop-i-init c = let n = c.args.more.count in let e : n - 0 ≡ n = omega arith in (omega arith, rw e)

pub with_entry-longer-requires : goal.with_entry-longer-requires
with_entry-longer-requires c = omega (arith, c.loop-i.invariant.0, c.requires)

pub loop-i-preserved : goal.loop-i-preserved
loop-i-preserved c =
    let a = c.args in
    let e = entry_of a.more.rows c.loop-i.i in
    let w : c.with_entry-longer.result ≡ with_entry c.loop-i.longer e =
    c.with_entry-longer.ensures ∙ ap (λ (x : Entry). with_entry c.loop-i.longer x) c.entry_at-e.ensures in (
      rw (w, one_more_entry c.loop-i.longer e) (omega (arith, c.loop-i.invariant.0)),
      rw w (sym (ap (with_all c.loop-i.longer) (one_entry a.more.rows c.loop-i.i a.more.count (search rules))) ∙ c.loop-i.invariant.1),
    )

pub returns : goal.returns
returns c = rw (no_entry c.args.more.rows c.loop-i.i c.args.more.count (search rules)) at c.loop-i.invariant.1
