-- Texts one behind the other, up to an end: what is left is the text of one number and what is left then. How long they are at most.
use Prim.Native.Nat.{ℕ, zero, suc, ◌+◌, ◌-◌, ◌*◌, ◌≤◌, ◌<◌}
use mathlib.Core.Path.{◌≡◌, ap, ◌∙◌}
use mathlib.Core.List.{List, [], ◌++◌}
use native.Mathlib.Nat.{suc-mul, add_comm}
use native.Mathlib.Omega.{arith}
use lib.ListN.{length, length-append}
use Rattle.text.specs.Joined.{joined}

module _ (text : ℕ → List ℕ) (end i : ℕ) where
  pub joined_turn : i < end → joined text i (end - i) ≡ text i ++ joined text (i + 1) (end - (i + 1))
  joined_turn h = let e : end - i ≡ suc (end - (i + 1)) = omega arith in ap (joined text i) e

  pub joined_end : end ≤ i → joined text i (end - i) ≡ []
  joined_end h = let e : end - i ≡ 0 = omega arith in ap (joined text i) e

pub joined_most : (text : ℕ → List ℕ) (most k i : ℕ) → ((j : ℕ) → i ≤ j → j < i + k → length (text j) ≤ most) → length (joined text i k) ≤ k * most
joined_most text most zero i h = omega arith
joined_most text most (suc k) i h =
    let here = h i (omega arith) (omega arith) in
    let rest = joined_most text most k (i + 1) (λ j l m. h j (omega arith) (omega arith)) in
    let e : suc k * most ≡ most + k * most = suc-mul k most ∙ add_comm (k * most) most in
    rw (length-append, e) (omega arith)
