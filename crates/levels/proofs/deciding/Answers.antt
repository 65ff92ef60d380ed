-- The place that is given is that of the last level that decides.
use Rattle.levels.proofs.DecidingLaws.{Last, last_turn, is_listed_last}
use Rattle.levels.specs.Levels.{level_of, decides, deciding_of}
use Rattle.levels.specs.declared.Level.{Level}
use Prim.Native.Nat.{◌+◌, ◌-◌}
use mathlib.Core.Path.{◌≡◌, ap, sym, ◌∙◌, subst}
use mathlib.Core.Bool.{true}
use native.Mathlib.Omega.{arith}
use borrow.Author.Rules.{rules}
use Rattle.levels.proofs.deciding.Goals as goal

pub returns-then-decides_for : goal.returns-then-decides_for
returns-then-decides_for c =
    let a = c.args in
    let rows = a.levels.numbers.now in
    let i = c.loop-i.i in
    let t : decides (level_of rows (i - 1)) a.table a.q ≡ true =
    sym (ap (λ (x : Level). decides x a.table a.q) c.level_at.ensures) ∙ sym c.decides_for.ensures ∙ c.if-decides_for.true in
    let e : i - 1 + 1 ≡ deciding_of rows a.levels.count a.table a.q =
    rw (last_turn rows a.table a.q i (search rules), t) at c.loop-i.invariant in
    record { is = e; last = rw e (is_listed_last rows a.table a.q a.levels.count) }

pub returns : goal.returns
returns c =
    let a = c.args in
    let rows = a.levels.numbers.now in
    let none : c.loop-i.i ≡ 0 = omega arith in
    let e : 0 ≡ deciding_of rows a.levels.count a.table a.q = rw none at c.loop-i.invariant in
    record { is = e; last = subst (Last rows a.table a.q a.levels.count) (sym e) (is_listed_last rows a.table a.q a.levels.count) }
