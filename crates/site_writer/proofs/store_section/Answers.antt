-- The count's two bytes and the rows' are one run of bytes.
use Rattle.output.proofs.SetsLaws.{sets_append}
use Rattle.numbers.specs.Words.{bytes}
use lib.Seq.{sets, length-take-le}
use lib.ListN.{length, take}
use Prim.Native.Nat.{ℕ, ◌+◌, ◌≤◌}
use mathlib.Core.List.{List, [], ◌∷◌}
use mathlib.Core.Path.{refl, ap, sym, ◌∙◌}
use native.Mathlib.Omega.{arith}
use Rattle.site_writer.proofs.store_section.Goals as goal
use Rattle.site_writer.proofs.store_section.Goals.{After-size-k}

is-part : (c : After-size-k) → c.size-k.result ≤ length c.args.v.now
is-part c = omega (arith, c.size-k.ensures, c.requires.0)

pub slice_bounds-store-end-2 : goal.slice_bounds-store-end-2
slice_bounds-store-end-2 c = sym (length-take-le _ _ (is-part (goal.at.slice_bounds-store-end-2 c).After-size-k))

pub store-requires-2 : goal.store-requires-2
store-requires-2 c = rw (length-take-le _ _ (is-part (goal.at.store-requires-2 c).After-size-k)) (omega (arith, c.size-k.ensures, c.store.auto.dst))

pub returns : goal.returns
returns c =
    let a = c.args in (record {
      next = omega (arith, c.size-k.ensures);
      stored = c.store-2.ensures
          ∙ ap (λ (l : List ℕ). sets l (a.at + 2) (bytes (take c.size-k.result a.v.now))) c.store.ensures
          ∙ sets_append a.dst.now a.at (a.at + 2) (bytes (a.count ∷ [])) (bytes (take c.size-k.result a.v.now)) refl
          ∙ ap (λ (k : ℕ). sets a.dst.now a.at (bytes (a.count ∷ take k a.v.now))) c.size-k.ensures;
    })
