-- The ITE formula in whole numbers is the page's, times 800, and so the page's number of ticks is the least that is no shorter.
use Prim.Native.Nat.{ℕ, zero, suc, ◌+◌, ◌-◌, ◌*◌, ◌≤◌}
use mathlib.Core.Path.{◌≡◌, refl, sym, ◌∙◌, ap, subst}
use native.Mathlib.Omega.{arith}
use native.Mathlib.Nat.{mul_assoc, mul_comm, suc-mul}
use borrow.Author.Tests.{le-ltb, ltb-true, ltb-false}
use lib.Dec.{ltb, leb→le, le→leb}
use lib.IntN.{ℤ, pos, negsuc, neg_ℤ, nat_abs, pos-ne-negsuc, ◌-ℤ◌, ◌*ℤ◌}
use lib.Signed.{◌≤ℤ◌}
use Rattle.loops.proofs.Cases.{by_test}
use Rattle.rounding.specs.Up.{rounded_up}
use Rattle.rounding.proofs.UpLaws.{up_most, up_enough}
use Rattle.slope.specs.Slope.{ticks_of}
use Rattle.slope.specs.Kinematic.{slowing_of, Enough, LeastEnough}
use Rattle.slope.proofs.SlopeLaws.{Speed, tilted, tilted_is, tilted_least, divisor_least, ticks_by}

out_of : (q k t : ℕ) → q * (k * t) ≡ k * (q * t)
out_of q k t = sym (mul_assoc q k t) ∙ ap (λ (x : ℕ). x * t) (mul_comm q k) ∙ mul_assoc k q t

below_zero : {X : Type 0} (a x : ℕ) → 1 ≤ x → pos a ≤ℤ neg_ℤ (pos x) → X
below_zero a zero h l = absurd (omega arith)
below_zero a (suc x) h l = absurd l.le

module _ (n : ℕ) (s : ℤ) (h : nat_abs s ≤ 80) where
  slowing_is : slowing_of s *ℤ pos 3600 ≡ pos (7200 * tilted s)
  unfolding slowing_of
  slowing_is =
      ap (λ (z : ℤ). pos 2 *ℤ z *ℤ pos 3600) (tilted_is s h)
      ∙ (let e : 2 * tilted s * 3600 ≡ 7200 * tilted s = omega arith in ap pos e)

  -- So many ticks above the reaction, times what is slowed.
  above : (q : ℕ) → (pos (10 + q) -ℤ pos 10) *ℤ (slowing_of s *ℤ pos 3600) ≡ pos (q * (7200 * tilted s))
  above q =
      rw (slowing_is, le-ltb (10 + q) 10 (omega arith))
      (let e : 10 + q - 10 ≡ q = omega arith in ap (λ (x : ℕ). pos (x * (7200 * tilted s))) e)

  enough : (q : ℕ) → 1250000 * n ≤ q * (9 * tilted s) → Enough (pos n) s (10 + q)
  unfolding Enough
  enough q l =
      rw (above q)
      (record { le = le→leb (n * 1000000000) (q * (7200 * tilted s)) (omega (arith, l, out_of q 9 (tilted s), out_of q 7200 (tilted s))) })

  by_page : (q : ℕ) → Enough (pos n) s (10 + q) → 1250000 * n ≤ q * (9 * tilted s)
  unfolding Enough
  by_page q e =
      let e' = subst (λ (z : ℤ). pos (n * 1000000000) ≤ℤ z) (above q) e in
      let l = leb→le (n * 1000000000) (q * (7200 * tilted s)) e'.le in
      omega (arith, l, out_of q 9 (tilted s), out_of q 7200 (tilted s))

  -- Fewer ticks than the reaction are never enough.
  ten_at_least : (y : ℕ) → Enough (pos n) s y → 10 ≤ y
  unfolding Enough
  ten_at_least y e =
      by_test (ltb y 10)
      (λ t.
      let l = ltb-true y 10 t in
      let x = suc (10 - suc y) * (7200 * tilted s) in
      let k : (pos y -ℤ pos 10) *ℤ (slowing_of s *ℤ pos 3600) ≡ neg_ℤ (pos x) = rw (slowing_is, t) refl in
      let some : 1 ≤ x = omega (arith, suc-mul (10 - suc y) (7200 * tilted s), tilted_least s h) in
      below_zero (n * 1000000000) x some (subst (λ (z : ℤ). pos (n * 1000000000) ≤ℤ z) k e))
      (ltb-false y 10)

  pub least_of_lem : LeastEnough (pos n) s (ticks_of (pos n) s)
  least_of_lem =
      let b = 9 * tilted s in
      let some : 1 ≤ b = divisor_least s h in
      rw (ticks_by (pos n) s h)
      (record {
        enough = enough (rounded_up (1250000 * n) b) (up_enough b some (1250000 * n));
        least = λ other e.
            let l = ten_at_least other e in
            let k : other ≡ 10 + (other - 10) = omega arith in
            let most = up_most b some (1250000 * n) (other - 10) (by_page (other - 10) (subst (Enough (pos n) s) k e)) in
            omega (arith, most);
      })

-- The ticks of a speed and a grade in range.
pub ticks_least : (v s : ℤ) → Speed v → nat_abs s ≤ 80 → LeastEnough v s (ticks_of v s)
ticks_least (pos n) s v h = least_of_lem n s h
ticks_least (negsuc n) s v h = absurd (pos-ne-negsuc (suc n) n (sym v.whole))

-- No other number is the least.
pub no_other : (v s : ℤ) (y y' : ℕ) → LeastEnough v s y → LeastEnough v s y' → y ≡ y'
no_other v s y y' a b = omega (arith, a.least y' b.enough, b.least y a.enough)
