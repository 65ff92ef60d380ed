-- The loop's invariant: storing the lanes that are left, from their place on, leaves what storing all leaves.
use mathlib.Core.Bool.{cond}
use Rattle.period.specs.declared.LaneCounts.{LaneCounts}
use Rattle.period.specs.declared.Counts.{Counts}
use Rattle.period.specs.Counts.{lane_of}
use borrow.Author.Rules.{rules}
use mathlib.Core.Path.{◌≡◌, refl, ap, ◌∙◌}
use mathlib.Core.List.{List, [], ◌∷◌}
use Prim.Native.Nat.{ℕ, ◌+◌, ◌*◌}
use lib.Seq.{sets}
use Rattle.numbers.specs.Words.{bytes}
use Rattle.poll.specs.Poll.{mainline_row}
use Rattle.period.specs.Counts.{good_of}
use Rattle.poll.proofs.RowLaws.{rows_at_start, rows_turn, rows_all}
use Rattle.poll.proofs.store_mainline.Goals as goal

-- What the calls give is the lane's row.
is_row : (c : Counts) (j : ℕ) (lane : LaneCounts) (good : ℕ) → lane ≡ lane_of c j → good ≡ cond (good_of lane) 1 0 → lane.vehicles ∷ lane.occupied ∷ good ∷ [] ≡ mainline_row c j
is_row c j lane good e g = rw (g, e)

pub loop-j-init : goal.loop-j-init
loop-j-init c = let a = c.args in rows_at_start (mainline_row a.c) 6 (λ k. refl) a.out.now a.at a.m

pub loop-j-preserved : goal.loop-j-preserved
loop-j-preserved c =
    let a = c.args in
    let row = is_row a.c c.loop-j.j c.lane_counts-lane.result c.good_number.result c.lane_counts-lane.ensures c.good_number.ensures in
    let stored = c.store.ensures ∙ ap (λ (l : List ℕ). sets c.loop-j.out (a.at + c.loop-j.j * 6) (bytes l)) row in
    rows_turn (mainline_row a.c) 6 (λ k. refl) _ a.at a.m _ c.loop-j.j c.loop-j.invariant _ (search rules) stored (search rules)

pub returns : goal.returns
returns c =
    let a = c.args in
    rows_all (mainline_row a.c) 6 (λ k. refl) _ a.at a.m _ c.loop-j.j c.loop-j.invariant (search rules)
