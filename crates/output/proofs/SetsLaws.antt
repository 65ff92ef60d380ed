-- Two runs of stores, one behind the other, are one; what is stored from the front on stands over the front.
use Prim.Native.Nat.{ℕ, suc, ◌+◌, ◌≤◌}
use mathlib.Core.Path.{◌≡◌, ◌∙◌}
use mathlib.Core.List.{List, [], ◌∷◌, ◌++◌}
use native.Mathlib.Omega.{arith}
use native.Mathlib.Nat.{zero-add}
use lib.ListN.{length, drop, set}
use lib.Seq.{sets, sets-eq}

pub sets_append : (l : List ℕ) (p q : ℕ) (a b : List ℕ) → q ≡ p + length a → sets (sets l p a) q b ≡ sets l p (a ++ b)
sets_append l p q [] b e = let h : q ≡ p = omega arith in rw h
sets_append l p q (x ∷ a) b e = sets_append (set l p x) (suc p) q a b (omega arith)

pub over_front : (text d : List ℕ) → length text ≤ length d → sets d 0 text ≡ text ++ drop (length text) d
over_front text d h = sets-eq text d 0 (omega arith) ∙ rw zero-add
