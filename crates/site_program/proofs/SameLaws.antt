-- Texts that differ are not the same.
use Prim.Native.Nat.{ℕ}
use mathlib.Core.Path.{◌≡◌, refl}
use mathlib.Core.Bool.{Bool, true, false}
use mathlib.Core.List.{List, [], ◌∷◌}
use borrow.Author.Tests.{eqb-true}
use lib.Dec.{eqb}
use Rattle.site_program.specs.Arguments.{same}

differ_case : (x y : ℕ) (xs ys : List ℕ) (b : Bool) → eqb x y ≡ b → ((xs ≡ ys → ⊥) → same xs ys ≡ false) → (x ∷ xs ≡ y ∷ ys → ⊥) → same (x ∷ xs) (y ∷ ys) ≡ false
differ_case x y xs ys true e rest h = rw e (rest (λ q. h (rw (eqb-true x y e, q))))
differ_case x y xs ys false e rest h = rw e

pub differ : (a b : List ℕ) → (a ≡ b → ⊥) → same a b ≡ false
differ [] [] h = absurd (h refl)
differ [] (y ∷ ys) h = refl
differ (x ∷ xs) [] h = refl
differ (x ∷ xs) (y ∷ ys) h = differ_case x y xs ys _ refl (differ xs ys) h
