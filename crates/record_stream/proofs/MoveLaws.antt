-- Moving one byte on: those before it are moved already, those from it on are as they were.
use Prim.Native.Nat.{ℕ, suc, ◌+◌, ◌<◌}
use mathlib.Core.Path.{◌≡◌, sym, ◌∙◌, ap, ap₂}
use mathlib.Core.List.{List, [], ◌∷◌, ◌++◌}
use native.Mathlib.Omega.{arith}
use lib.ListN.{length, get_or, set, take, drop, length-drop}
use lib.Seq.{take-suc, take-suc-set, drop-set-lt, get_or-drop, drop-drop}

module _ (b₀ b : List ℕ) (i from : ℕ) (moved : take i b ≡ take i (drop from b₀)) (same : drop i b ≡ drop i b₀) where
  read : get_or b (from + i) 0 ≡ get_or b₀ (from + i) 0
  read =
      let e : from + i ≡ i + from = omega arith in
      rw e (sym (get_or-drop i b from 0) ∙ ap (λ (l : List ℕ). get_or l from 0) same ∙ get_or-drop i b₀ from 0)

  pub one_moved : i < length b → from + i < length b₀ → take (suc i) (set b i (get_or b (from + i) 0)) ≡ take (suc i) (drop from b₀)
  one_moved h k =
      take-suc-set b i (get_or b (from + i) 0) h
      ∙ ap₂ (λ (l : List ℕ) (x : ℕ). l ++ (x ∷ [])) moved (read ∙ sym (get_or-drop from b₀ i 0))
      ∙ sym (take-suc (drop from b₀) i 0 (omega (arith, length-drop from b₀)))

  pub rest_same : (x : ℕ) → drop (suc i) (set b i x) ≡ drop (suc i) b₀
  rest_same x =
      let e : i + 1 ≡ suc i = omega arith in
      drop-set-lt (suc i) b i x (omega arith)
      ∙ ap (λ (k : ℕ). drop k b) (sym e)
      ∙ sym (drop-drop 1 i b)
      ∙ ap (λ (l : List ℕ). drop 1 l) same
      ∙ drop-drop 1 i b₀
      ∙ ap (λ (k : ℕ). drop k b₀) e
