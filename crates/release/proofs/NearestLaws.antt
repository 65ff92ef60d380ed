-- To the nearest, a half going up: the definition is what the words say, and the words leave no other number.
use Prim.Native.Nat.{ℕ, ◌+◌, ◌*◌, ◌/◌, ◌%◌, ◌≤◌, ◌<◌}
use mathlib.Core.Path.{◌≡◌}
use lib.Dec.{ltb, eqb}
use native.Mathlib.Omega.{arith}
use native.Mathlib.Nat.{add-mul, one-mul, mod-lt, div-add-mod', lt_of_mul-lt-mul_right}
use borrow.Author.Tests.{ne_eqb, ltb-true, ltb-false, eqb-true, eqb-false}
use Rattle.loops.proofs.Cases.{by_test}
use Rattle.release.specs.Cycle.{to_nearest}
use Rattle.release.specs.Nearest.{distance, Nearest}

module _ (a b : ℕ) (h : 1 ≤ b) where
  -- Twice the distance from the exact quotient is at most one, and exactly one only upwards.
  pub nearest : Nearest a b (to_nearest a b)
  unfolding to_nearest
  nearest =
      let less : a % b < b = mod-lt a (omega arith) in
      let parts = div-add-mod' a b in
      let one_more : (a / b + 1) * b ≡ a / b * b + b = omega (arith, add-mul (a / b) 1 b, one-mul b) in
      rw (ne_eqb b 0 (λ z. omega arith))
      (by_test (ltb (2 * (a % b)) b)
      (λ e. let l = ltb-true (2 * (a % b)) b e in
      rw e (record { near = omega (arith, l, parts); upwards = λ q. omega (arith, l, parts) }))
      (λ e. let l = ltb-false (2 * (a % b)) b e in
      rw e (record { near = omega (arith, l, less, parts, one_more); upwards = λ q. omega (arith, l, less, parts, one_more) })))

  module _ (r : ℕ) (n : Nearest a b r) where
    -- It is above the quotient by half at the most, and below it by less.
    pub not_above : 2 * (r * b) ≤ 2 * a + b
    not_above = omega (arith, n.near)

    pub not_below : 2 * a < 2 * (r * b) + b
    not_below =
        by_test (eqb (2 * distance a (r * b)) b)
        (λ e. omega (arith, n.upwards (eqb-true (2 * distance a (r * b)) b e)))
        (λ e. omega (arith, n.near, eqb-false (2 * distance a (r * b)) b e))

  no_more : (r s : ℕ) → Nearest a b r → Nearest a b s → r ≤ s
  no_more r s m n =
      let l : r * b < (s + 1) * b = omega (arith, not_above r m, not_below s n, add-mul s 1 b, one-mul b) in
      omega (arith, lt_of_mul-lt-mul_right b l)

  -- The words leave no other number.
  pub no_other : (r : ℕ) → Nearest a b r → r ≡ to_nearest a b
  no_other r n = omega (arith, no_more r (to_nearest a b) n nearest, no_more (to_nearest a b) r nearest n)
