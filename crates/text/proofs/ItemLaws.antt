-- An item of what is left of a list, one byte at a time.
use Prim.Native.Nat.{ℕ, zero, suc, ◌+◌, ◌-◌, ◌≤◌, ◌<◌}
use mathlib.Core.Path.{◌≡◌, refl}
use mathlib.Core.List.{List, [], ◌∷◌, ◌++◌}
use native.Mathlib.Omega.{arith}
use native.Mathlib.Numerals.{add-one}
use borrow.Author.Tests.{eq-eqb, ne_eqb}
use lib.ListN.{length, get_or, drop, drop_of_length-le}
use lib.Seq.{drop-cons}
use Rattle.text.specs.Items.{comma, item}

module _ (list : List ℕ) (k : ℕ) (h : k < length list) where
  pub item_ends : (left : ℕ) → get_or list k 0 ≡ comma → left ≡ 0 → item (drop k list) left ≡ []
  item_ends left e z = rw (z, drop-cons list k 0, eq-eqb _ _ e)

  pub item_letter : (left : ℕ) → (get_or list k 0 ≡ comma → ⊥) → left ≡ 0 → item (drop k list) left ≡ (get_or list k 0 ∷ []) ++ item (drop (k + 1) list) left
  item_letter left n z = rw (z, add-one, drop-cons list k 0, ne_eqb _ _ n)

  pub past_comma : (left : ℕ) → get_or list k 0 ≡ comma → (left ≡ 0 → ⊥) → item (drop k list) left ≡ item (drop (k + 1) list) (left - 1)
  past_comma zero e z = absurd (z refl)
  past_comma (suc left) e z = let o : suc left - 1 ≡ left = omega arith in rw (o, add-one, drop-cons list k 0, eq-eqb _ _ e)

  pub past_letter : (left : ℕ) → (get_or list k 0 ≡ comma → ⊥) → (left ≡ 0 → ⊥) → item (drop k list) left ≡ item (drop (k + 1) list) left
  past_letter zero n z = absurd (z refl)
  past_letter (suc left) n z = rw (add-one, drop-cons list k 0, ne_eqb _ _ n)

item_of_none : (left : ℕ) → item [] left ≡ []
item_of_none zero = refl
item_of_none (suc left) = refl

pub item_beyond : (list : List ℕ) (k left : ℕ) → length list ≤ k → item (drop k list) left ≡ []
item_beyond list k left h = rw (drop_of_length-le list {i = k} h) (item_of_none left)
