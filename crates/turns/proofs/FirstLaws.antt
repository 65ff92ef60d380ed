-- `first_after` one at a time, for a loop that has come to k and has so many more to look at.
use Prim.Native.Nat.{ℕ, zero, suc, ◌-◌, ◌≤◌, ◌<◌}
use mathlib.Core.Path.{◌≡◌}
use mathlib.Core.Bool.{Bool, true, false}
use native.Mathlib.Omega.{arith}
use lib.Dec.{ltb}
use Rattle.loops.proofs.Cases.{by_test}
use Rattle.turns.specs.Turn.{next_of, first_after}

pub next_from_1 : (n k : ℕ) → 1 ≤ next_of n k
unfolding next_of
next_from_1 n k = by_test (ltb k n) (λ e. rw e (omega arith)) (λ e. rw e (omega arith))

pub first_found : (p : ℕ → Bool) (n k more : ℕ) → 0 < more → p (next_of n k) ≡ true → next_of n k ≡ first_after p n k more
first_found p n k zero h e = absurd (omega arith)
first_found p n k (suc more) h e = rw e

pub first_turn : (p : ℕ → Bool) (n k more : ℕ) → 0 < more → p (next_of n k) ≡ false → first_after p n (next_of n k) (more - 1) ≡ first_after p n k more
first_turn p n k zero h e = absurd (omega arith)
first_turn p n k (suc more) h e = let less : suc more - 1 ≡ more = omega arith in rw (less, e)

pub first_end : (p : ℕ → Bool) (n k more : ℕ) → more ≤ 0 → 0 ≡ first_after p n k more
first_end p n k more h = let none : more ≡ 0 = omega arith in rw none
