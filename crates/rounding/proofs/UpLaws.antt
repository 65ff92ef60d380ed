-- A quotient that is rounded up is the least number that is no less than the exact one: said by products, without a division.
use Prim.Native.Nat.{ℕ, ◌+◌, ◌-◌, ◌*◌, ◌/◌, ◌≤◌, ◌<◌}
use mathlib.Core.Path.{◌≡◌}
use native.Mathlib.Omega.{arith}
use native.Mathlib.Nat.{add-mul, zero-mul, one-mul, le_trans, mul-le-mul_left, div-lt_iff_lt-mul, le-div_iff_mul-le}
use borrow.Author.Tests.{ne_eqb, leb-true, leb-false, le-leb, lt-leb}
use lib.Dec.{leb}
use Rattle.loops.proofs.Cases.{by_test}
use Rattle.rounding.specs.Up.{rounded_up}

module _ (b : ℕ) (h : 1 ≤ b) where
  pub up_is : (a : ℕ) → rounded_up a b ≡ (a + (b - 1)) / b
  unfolding rounded_up
  up_is a = rw (ne_eqb b 0 (λ z. omega arith))

  pos : 0 < b
  pos = omega arith

  pub up_most : (a c : ℕ) → a ≤ c * b → rounded_up a b ≤ c
  up_most a c l =
      let below : a + (b - 1) < (c + 1) * b = omega (arith, add-mul c 1 b, one-mul b) in
      let p : (a + (b - 1)) / b < c + 1 = (div-lt_iff_lt-mul pos).1 below in
      rw (up_is a) (omega arith)

  up_beyond : (a c : ℕ) → c * b < a → c < rounded_up a b
  up_beyond a c l =
      let above : (c + 1) * b ≤ a + (b - 1) = omega (arith, add-mul c 1 b, one-mul b) in
      let p : c + 1 ≤ (a + (b - 1)) / b = (le-div_iff_mul-le pos).1 above in
      rw (up_is a) (omega arith)

  pub up_enough : (a : ℕ) → a ≤ rounded_up a b * b
  up_enough a =
      by_test (leb a (rounded_up a b * b))
      (leb-true a (rounded_up a b * b))
      (λ e. absurd (omega (arith, up_beyond a (rounded_up a b) (leb-false a (rounded_up a b * b) e))))

  -- Whether it is c at the most needs no division.
  pub up_by_product : (a c : ℕ) → leb a (c * b) ≡ leb (rounded_up a b) c
  up_by_product a c =
      by_test (leb a (c * b))
      (λ e. rw (e, le-leb (rounded_up a b) c (up_most a c (leb-true a (c * b) e))))
      (λ e. rw (e, lt-leb (rounded_up a b) c (up_beyond a c (leb-false a (c * b) e))))

  pub up_least : (a : ℕ) → 1 ≤ a → 1 ≤ rounded_up a b
  up_least a l = up_beyond a 0 (omega (arith, zero-mul b))

  -- It does not fall as what is divided grows, nor grow as the divisor does.
  pub up_grows : (a c : ℕ) → a ≤ c → rounded_up a b ≤ rounded_up c b
  up_grows a c l = up_most a (rounded_up c b) (le_trans l (up_enough c))

pub up_falls : (a b c : ℕ) → 1 ≤ b → b ≤ c → rounded_up a c ≤ rounded_up a b
up_falls a b c h l =
    up_most c (omega arith) a (rounded_up a b) (le_trans (up_enough b h a) (mul-le-mul_left (rounded_up a b) l))
