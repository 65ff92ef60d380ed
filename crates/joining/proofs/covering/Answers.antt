-- The place that is given is the last that covers the entry.
use Rattle.joining.proofs.CoversLaws.{last_covering}
use Rattle.joining.proofs.Turns.{last_turn}
use Rattle.joining.specs.Joining.{covers}
use Rattle.plan.specs.Entry.{entry_of}
use Rattle.plan.specs.declared.Entry.{Entry}
use mathlib.Core.Bool.{true}
use mathlib.Core.Path.{◌≡◌, ap, sym, ◌∙◌}
use Prim.Native.Nat.{◌+◌, ◌-◌}
use native.Mathlib.Omega.{arith}
use borrow.Author.Rules.{rules}
use Rattle.joining.proofs.covering.Goals as goal

pub returns-then-covers-clause-words : goal.returns-then-covers-clause-words
returns-then-covers-clause-words c =
    let l = c.args.plan in
    let i = c.loop-i.i in
    let t : covers (entry_of l.numbers.now (i - 1)) c.args.e ≡ true =
    sym (ap (λ (x : Entry). covers x c.args.e) c.entry_at.ensures) ∙ sym c.covers.ensures.is ∙ c.if-covers.true in
    let place : i - 1 + 1 ≡ i = omega arith in
    (last_covering l.numbers.now l.count c.args.e (i - 1 + 1) (place ∙ (rw (last_turn l.numbers.now c.args.e i (search rules), t) at c.loop-i.invariant))).1

pub returns-clause-words : goal.returns-clause-words
returns-clause-words c =
    let l = c.args.plan in
    let none : c.loop-i.i ≡ 0 = omega arith in
    (last_covering l.numbers.now l.count c.args.e 0 (rw none at c.loop-i.invariant)).1
