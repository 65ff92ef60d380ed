-- The four parts, each stored where the one before it ended.
use mathlib.Core.Path.{refl, ap, ◌∙◌}
use mathlib.Core.List.{List, [], ◌∷◌}
use Prim.Native.Nat.{ℕ, ◌+◌, ◌*◌}
use lib.Seq.{sets}
use Rattle.numbers.specs.Words.{bytes}
use Rattle.poll.specs.Poll.{metered_row, mainline_row, rows_from}
use Rattle.poll.proofs.PollLaws.{parts_stored}
use Rattle.poll.proofs.store_record.Goals as goal

pub returns : goal.returns
returns c =
    let a = c.args in
    let last = a.periods.last in
    c.store_mainline.ensures
    ∙ ap (λ (l : List ℕ). sets l (6 + a.shape.lanes * 4 + 2) (bytes (rows_from (mainline_row last) 0 a.shape.mainline)))
    (c.store-2.ensures
    ∙ ap (λ (l : List ℕ). sets l (6 + a.shape.lanes * 4) (bytes (a.shape.mainline ∷ [])))
    (c.store_metered.ensures ∙ ap (λ (l : List ℕ). sets l 6 (bytes (rows_from (metered_row last) 0 a.shape.lanes))) c.store.ensures))
    ∙ parts_stored a.periods a.shape.lanes a.shape.mainline a.out.now (6 + a.shape.lanes * 4) (6 + a.shape.lanes * 4 + 2) refl refl
