-- The greatest of some values, one for each lane.
use Prim.Native.Nat.{ℕ, zero, suc, ◌≤◌, ◌<◌, max}
use native.Mathlib.Omega.{arith}
use borrow.Author.Tests.{eqb-true, eqb-false}
use lib.Dec.{eqb}
use Rattle.loops.proofs.Cases.{by_test}

-- The greatest of the first n values.
abbrev pub most_of : (ℕ → ℕ) → ℕ → ℕ
most_of f zero = 0
most_of f (suc n) = max (most_of f n) (f n)

pub most_each : (f : ℕ → ℕ) (n i : ℕ) → i < n → f i ≤ most_of f n
most_each f zero i h = absurd (omega arith)
most_each f (suc n) i h =
    by_test (eqb i n)
    (λ e. rw (eqb-true i n e) (omega arith))
    (λ e. omega (arith, most_each f n i (omega (arith, eqb-false i n e))))

pub most_most : (f : ℕ → ℕ) (n k : ℕ) → ((i : ℕ) → i < n → f i ≤ k) → most_of f n ≤ k
most_most f zero k h = omega arith
most_most f (suc n) k h = omega (arith, most_most f n k (λ i l. h i (omega arith)), h n (omega arith))
