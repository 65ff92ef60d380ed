-- What the ranges give: the divisor is positive and grows with the grade, so that the yellow lies within 10 to 60 and is ordered.
use Prim.Native.Nat.{ℕ, suc, ◌+◌, ◌-◌, ◌*◌, ◌≤◌}
use mathlib.Core.Path.{◌≡◌, refl, sym, ◌∙◌, ap}
use mathlib.Core.Bool.{true, not, true≢false}
use native.Mathlib.Omega.{arith}
use borrow.Author.Tests.{le-ltb, le-leb, lt-leb, leb-true, ltb-true, ltb-false}
use lib.Dec.{leb, ltb, leb→le}
use lib.IntN.{ℤ, pos, negsuc, neg_ℤ, nat_abs, ◌+ℤ◌, ◌*ℤ◌}
use lib.Signed.{le_z, lt_z, ◌≤ℤ◌}
use Rattle.loops.proofs.Cases.{by_test, both_true}
use Rattle.rounding.specs.Up.{rounded_up}
use Rattle.rounding.proofs.UpLaws.{up_most, up_grows, up_falls}
use Rattle.numbers.specs.Within.{is_within}
use Rattle.ranges.specs.Ranges.{timing_range}
use Rattle.slope.specs.Slope.{is_from, speed_in, grade_in, divisor_of, ticks_of}
use Rattle.slope.specs.Claims.{Fits}

-- The two tests of order.
not_less : (a b : ℕ) → leb b a ≡ not (ltb a b)
not_less a b =
    by_test (ltb a b)
    (λ e. rw (e, lt-leb b a (ltb-true a b e)))
    (λ e. rw (e, le-leb b a (ltb-false a b e)))

pub not_below : (a b : ℤ) → le_z b a ≡ not (lt_z a b)
not_below (pos a) (pos b) = not_less a b
not_below (pos a) (negsuc b) = refl
not_below (negsuc a) (pos b) = refl
not_below (negsuc a) (negsuc b) = not_less b a

-- A speed in range, and a grade.
pub record Speed (v : ℤ) : Type 0 where
  pub whole : v ≡ pos (nat_abs v)
  pub least : 20 ≤ nat_abs v
  pub most : nat_abs v ≤ 80

pub speed : (v : ℤ) → speed_in v ≡ true → Speed v
unfolding speed_in is_from
speed (pos n) e = let p = both_true (leb 20 n) (leb n 80) e in record { whole = refl; least = leb-true 20 n p.0; most = leb-true n 80 p.1 }
speed (negsuc n) e = absurd (true≢false (sym e))

pub grade_size : (s : ℤ) → grade_in s ≡ true → nat_abs s ≤ 80
unfolding grade_in is_from
grade_size (pos n) e = leb-true n 80 e
grade_size (negsuc n) e = let p = both_true (leb n 79) true e in let l = leb-true n 79 p.0 in omega arith

-- 305000 + 981 × s as a natural number.
pub tilted : ℤ → ℕ
tilted (pos k) = 305000 + 981 * k
tilted (negsuc k) = 305000 - 981 * suc k

pub tilted_is : (s : ℤ) → nat_abs s ≤ 80 → pos 305000 +ℤ pos 981 *ℤ s ≡ pos (tilted s)
unfolding tilted
tilted_is (pos k) h = refl
tilted_is (negsuc k) h =
    let e : 981 * suc k ≡ suc (981 * k + 980) = omega arith in
    ap (λ (n : ℕ). pos 305000 +ℤ neg_ℤ (pos n)) e
    ∙ rw (le-ltb 305000 (suc (981 * k + 980)) (omega arith)) (ap (λ (n : ℕ). pos (305000 - n)) (sym e))

pub tilted_least : (s : ℤ) → nat_abs s ≤ 80 → 226520 ≤ tilted s
unfolding tilted
tilted_least (pos k) h = omega arith
tilted_least (negsuc k) h = omega arith

pub tilted_most : (s : ℤ) → nat_abs s ≤ 80 → tilted s ≤ 383480
unfolding tilted
tilted_most (pos k) h = omega arith
tilted_most (negsuc k) h = omega arith

tilted_grows : (s s' : ℤ) → s ≤ℤ s' → tilted s ≤ tilted s'
unfolding tilted
tilted_grows (pos k) (pos k') h = let l = leb→le k k' h.le in omega arith
tilted_grows (pos k) (negsuc k') h = absurd h.le
tilted_grows (negsuc k) (pos k') h = omega arith
tilted_grows (negsuc k) (negsuc k') h = let l = leb→le k' k h.le in omega arith

-- The divisor, and the ticks by it.
pub divisor_is : (s : ℤ) → nat_abs s ≤ 80 → divisor_of s ≡ pos (9 * tilted s)
unfolding divisor_of
divisor_is s h = ap (λ (z : ℤ). pos 9 *ℤ z) (tilted_is s h)

pub ticks_by : (v s : ℤ) → nat_abs s ≤ 80 → ticks_of v s ≡ 10 + rounded_up (1250000 * nat_abs v) (9 * tilted s)
unfolding ticks_of
ticks_by v s h = rw (divisor_is s h)

pub divisor_least : (s : ℤ) → nat_abs s ≤ 80 → 1 ≤ 9 * tilted s
divisor_least s h = omega (arith, tilted_least s h)

-- Within 10 to 60, as the site file's yellows.
quotient_most : (v s : ℤ) → nat_abs v ≤ 80 → nat_abs s ≤ 80 → rounded_up (1250000 * nat_abs v) (9 * tilted s) ≤ 50
quotient_most v s hv hs =
    up_most (9 * tilted s) (divisor_least s hs) (1250000 * nat_abs v) 50 (omega (arith, tilted_least s hs))

pub ticks_fit : (v s : ℤ) → nat_abs v ≤ 80 → nat_abs s ≤ 80 → Fits (ticks_of v s)
unfolding timing_range is_within
ticks_fit v s hv hs =
    let e = ticks_by v s hs in
    let q = quotient_most v s hv hs in
    let l : 10 ≤ ticks_of v s = omega (arith, e) in
    let m : ticks_of v s ≤ 60 = omega (arith, e, q) in
    record {
      least = l;
      most = m;
      yellow = λ lanes green. rw (le-leb 10 (ticks_of v s) l) (le-leb (ticks_of v s) 60 m);
      startup = λ lanes green. rw (le-leb 10 (ticks_of v s) l) (le-leb (ticks_of v s) 60 m);
    }

-- A slower vehicle, and a road that tips upward, have no longer yellow.
pub ordered : (v v' s s' : ℤ) → nat_abs s ≤ 80 → nat_abs s' ≤ 80 → nat_abs v ≤ nat_abs v' → s' ≤ℤ s → ticks_of v s ≤ ticks_of v' s'
ordered v v' s s' h h' slower upward =
    let grows =
    up_grows (9 * tilted s) (divisor_least s h) (1250000 * nat_abs v) (1250000 * nat_abs v') (omega arith) in
    let falls =
    up_falls (1250000 * nat_abs v') (9 * tilted s') (9 * tilted s) (divisor_least s' h') (omega (arith, tilted_grows s' s upward)) in
    omega (arith, ticks_by v s h, ticks_by v' s' h', grows, falls)
