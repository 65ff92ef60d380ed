-- Bytes cut into parts, and parts of a list that are lent on.
use Prim.Native.Nat.{ℕ, zero, suc, ◌+◌, ◌-◌, ◌≤◌, ◌<◌, min}
use mathlib.Core.Path.{◌≡◌, refl, sym, ◌∙◌, ap, ap₂}
use mathlib.Core.List.{List, [], ◌∷◌, ◌++◌, append-nil, append_assoc}
use native.Mathlib.Omega.{arith}
use native.Mathlib.Nat.{zero-add}
use borrow.Author.Tests.{ltb-true, ltb-false}
use borrow.Rule.Slice.PartMut.{put_mid}
use lib.Dec.{ltb}
use lib.ListN.{length, take, drop, length-drop, drop_of_length-le}
use lib.Seq.{sets, sets-eq, take_all, drop-drop}
use Rattle.loops.proofs.Cases.{by_test}
use Rattle.many_ticks.specs.Many.{parts_of}

module _ (size : ℕ) (some : 1 ≤ size) where
  -- As many parts as bytes are enough, and more are no others.
  pub enough : (k l : ℕ) (b : List ℕ) → length b ≤ k → length b ≤ l → parts_of size k b ≡ parts_of size l b
  enough zero zero b p q = refl
  enough zero (suc l) [] p q = refl
  enough zero (suc l) (x ∷ b) p q = absurd (omega arith)
  enough (suc k) zero [] p q = refl
  enough (suc k) zero (x ∷ b) p q = absurd (omega arith)
  enough (suc k) (suc l) [] p q = refl
  enough (suc k) (suc l) (x ∷ b) p q =
      let h = length-drop size (x ∷ b) in
      ap (λ (rest : List (List ℕ)). take size (x ∷ b) ∷ rest) (enough k l (drop size (x ∷ b)) (omega arith) (omega arith))

  -- The first part and the parts of the rest.
  pub first_part : (b : List ℕ) → 0 < length b → parts_of size (length b) b ≡ take size b ∷ parts_of size (length (drop size b)) (drop size b)
  first_part [] h = absurd (omega arith)
  first_part (x ∷ b) h =
      let l = length-drop size (x ∷ b) in
      ap (λ (rest : List (List ℕ)). take size (x ∷ b) ∷ rest) (enough (length b) (length (drop size (x ∷ b))) (drop size (x ∷ b)) (omega arith) (omega arith))

-- A part that is asked for with no more than there is.
pub whole_or_cut : (size : ℕ) (l : List ℕ) → take (min size (length l)) l ≡ take size l
whole_or_cut size l =
    by_test (ltb size (length l))
    (λ t. let h = ltb-true size (length l) t in let e : min size (length l) ≡ size = omega (arith, h) in ap (λ (k : ℕ). take k l) e)
    (λ t. let h = ltb-false size (length l) t in take_all (min size (length l)) l (omega (arith, h)) ∙ sym (take_all size l h))

-- The rest of the output, lent to the writer of one tick, comes back with that tick's bytes at their place.
pub lend_back : (xs vs : List ℕ) (at : ℕ) → at + length vs ≤ length xs
    → put_mid at (length xs - at) xs (sets (take (length xs - at) (drop at xs)) 0 vs) ≡ sets xs at vs
lend_back xs vs at h =
    let l = length-drop at xs in
    let whole = take_all (length xs - at) (drop at xs) (omega (arith, l)) in
    let none : drop (length xs - at) (drop at xs) ≡ [] = drop_of_length-le (drop at xs) {i = length xs - at} (omega (arith, l)) in
    let part : sets (drop at xs) 0 vs ≡ vs ++ drop (length vs) (drop at xs) = sets-eq vs (drop at xs) 0 (omega (arith, l)) ∙ rw zero-add in
    let behind = ap (λ (l : List ℕ). sets l 0 vs) whole ∙ part ∙ ap (λ (l : List ℕ). vs ++ l) (drop-drop (length vs) at xs) in
    ap₂ (λ (ys zs : List ℕ). take at xs ++ (ys ++ zs)) behind none
    ∙ ap (λ (l : List ℕ). take at xs ++ l) (append-nil (vs ++ drop (at + length vs) xs))
    ∙ sym (append_assoc (take at xs) vs (drop (at + length vs) xs))
    ∙ sym (sets-eq vs xs at h)
