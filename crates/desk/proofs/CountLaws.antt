-- How many are enrolled below a number.
use Prim.Native.Nat.{ℕ, zero, suc, ◌+◌, ◌≤◌, ◌<◌}
use mathlib.Core.Path.{◌≡◌, refl}
use mathlib.Core.Bool.{Bool, true, false, cond}
use native.Mathlib.Omega.{arith}
use borrow.Author.Tests.{eqb-true, eqb-false}
use lib.Dec.{eqb}
use Rattle.loops.proofs.Cases.{by_test}
use Rattle.desk.specs.declared.Desk.{Desk}
use Rattle.desk.specs.Desk.{enrolled_at}
use Rattle.desk.specs.Polling.{enrolled_below}

one_at_most : (b : Bool) → cond b 1 0 ≤ 1
one_at_most true = omega arith
one_at_most false = omega arith

module _ (d : Desk) where
  pub below_step : (k : ℕ) → enrolled_at d k ≡ true → enrolled_below d (suc k) ≡ enrolled_below d k + 1
  below_step k there = rw there

  pub below_most : (k : ℕ) → enrolled_below d k ≤ k
  below_most zero = omega arith
  below_most (suc k) = omega (arith, below_most k, one_at_most (enrolled_at d k))

  pub below_grows : (j k : ℕ) → j ≤ k → enrolled_below d j ≤ enrolled_below d k
  below_grows j zero h = let z : j ≡ 0 = omega (arith, h) in rw z (omega arith)
  below_grows j (suc k) h =
      by_test (eqb j (suc k))
      (λ e. let same = eqb-true j (suc k) e in rw same (omega arith))
      (λ e. omega (arith, below_grows j k (omega (arith, h, eqb-false j (suc k) e))))

  -- From j up to k none is.
  pub below_none : (j k : ℕ) → j ≤ k → ((i : ℕ) → j ≤ i → i < k → enrolled_at d i ≡ false) → enrolled_below d k ≡ enrolled_below d j
  below_none j zero h none = let z : j ≡ 0 = omega (arith, h) in rw z
  below_none j (suc k) h none =
      by_test (eqb j (suc k))
      (λ e. let same = eqb-true j (suc k) e in rw same)
      (λ e. let low : j ≤ k = omega (arith, h, eqb-false j (suc k) e) in
      let out = none k low (omega arith) in
      rw out (omega (arith, below_none j k low (λ i a b. none i a (omega (arith, b))))))

-- It is the same on a desk with the same enrolled.
pub same_there : (c d : Desk) (i : ℕ) → c.enrolled ≡ d.enrolled → enrolled_at c i ≡ enrolled_at d i
unfolding enrolled_at
same_there c d i same = rw same

pub same_below : (c d : Desk) (k : ℕ) → c.enrolled ≡ d.enrolled → enrolled_below c k ≡ enrolled_below d k
same_below c d zero same = refl
same_below c d (suc k) same = rw (same_below c d k same, same_there c d k same)
