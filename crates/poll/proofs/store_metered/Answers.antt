-- The loop's invariant: storing the lanes that are left, from their place on, leaves what storing all leaves.
use borrow.Author.Rules.{rules}
use mathlib.Core.Path.{refl}
use Rattle.poll.specs.Poll.{metered_row}
use Rattle.poll.proofs.RowLaws.{rows_at_start, rows_turn, rows_all}
use Rattle.poll.proofs.store_metered.Goals as goal

pub loop-i-init : goal.loop-i-init
loop-i-init c = let a = c.args in rows_at_start (metered_row a.c) 4 (λ k. refl) a.out.now a.at a.n

pub loop-i-preserved : goal.loop-i-preserved
loop-i-preserved c =
    let a = c.args in
    rows_turn (metered_row a.c) 4 (λ k. refl) _ a.at a.n _ c.loop-i.i c.loop-i.invariant _ (search rules) c.store.ensures (search rules)

pub returns : goal.returns
returns c =
    let a = c.args in
    rows_all (metered_row a.c) 4 (λ k. refl) _ a.at a.n _ c.loop-i.i c.loop-i.invariant (search rules)
