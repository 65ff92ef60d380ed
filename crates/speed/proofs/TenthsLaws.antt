-- The greatest number of tenths that a speed reaches. A speed that reaches some tenths reaches every smaller number of them, so a search by
-- halves finds the greatest. A speed that comes from counts is so far below each tenth that it misses that two neighbouring values q / 2^33 lie
-- between the two, and rounding keeps the order.
use Prim.Native.Nat.{ℕ, zero, suc, ◌+◌, ◌-◌, ◌*◌, ◌/◌, ◌^◌, ◌≤◌, ◌<◌}
use mathlib.Core.Path.{◌≡◌, refl, sym, ap, ◌∙◌, subst}
use mathlib.Core.Bool.{Bool, true, false, cond}
use native.Mathlib.Omega.{arith, by_contra, both_ways}
use native.Mathlib.Nat.{mul-le-mul_right, le-div_iff_mul-le, div-mul-le_self, div-le_of_le-mul}
use lib.Dec.{T}
use lib.Ieee.{Float, nan, inf, fin, binary64, round, le, of_int}
use lib.Ieee.Order.{round_mono}
use lib.Ieee.Back.{round_whole}
use lib.Ieee.Bits.{is_true}
use lib.Ieee.Positive.{positive, positive_of_value, above, above_of_le, values_of_le, le_trans_positive}
use Rattle.speed.specs.Speed.{speed_of, Timed}
use Rattle.speed.specs.Tenths.{tenth, greatest, tenths_of}
use Rattle.speed.proofs.SpeedLaws.{div_at, part, r_positive, some_millis, few_millis, speed_is, speed_positive}

tenth_is : (k : ℕ) → k ≤ 219600 → tenth k ≡ round binary64 false k 10
unfolding tenth of_int
tenth_is k hk =
    div_at (round binary64 false k 1) (round binary64 false 10 1) k 10 (omega arith)
    (round_whole binary64 false k (omega arith)) (round_whole binary64 false 10 (omega arith))

tenth_positive : (k : ℕ) → 1 ≤ k → k ≤ 219600 → T (positive (round binary64 false k 10))
tenth_positive k K hk = r_positive k 10 K (omega arith) (omega arith) (omega arith)

-- ---- fewer tenths are reached too

to_infinity : (x : Float) → T (positive x) → T (le x (inf false))
unfolding le
to_infinity nan p = absurd p
to_infinity (inf s) p = absurd p
to_infinity (fin s m e) p = tt

-- The last of the three may be an infinity.
le_trans_above : (x y z : Float) → T (positive x) → T (positive y) → T (above z) → T (le x y) → T (le y z) → T (le x z)
le_trans_above x y nan p q a h k = absurd a
le_trans_above x y (inf true) p q a h k = absurd a
le_trans_above x y (inf false) p q a h k = to_infinity x p
le_trans_above x y (fin true m e) p q a h k = absurd a
le_trans_above x y (fin false m e) p q a h k = le_trans_positive x y (fin false m e) p q a h k

pub fewer : (x : Float) (j k : ℕ) → 1 ≤ j → j ≤ k → k ≤ 219600 → T (le (tenth k) x) → T (le (tenth j) x)
fewer x j k J h hk l =
    let low = round binary64 false j 10 in
    let high = round binary64 false k 10 in
    let high-pos = tenth_positive k (omega arith) hk in
    let below = round_mono binary64 j 10 k 10 (omega arith) (omega arith) (omega arith) in
    let reached : T (le high x) = rw (tenth_is k hk) at l in
    rw (tenth_is j (omega arith))
    (le_trans_above low high x (tenth_positive j J (omega arith)) high-pos (above_of_le high x high-pos reached) below reached)

-- ---- the greatest number of tenths

greatest_le : (x : Float) (n : ℕ) → greatest x n ≤ n
unfolding greatest
greatest_le x zero = omega arith
greatest_le x (suc n) = go (le (tenth (suc n)) x) (greatest_le x n)
  where
    go : (b : Bool) → greatest x n ≤ n → cond b (suc n) (greatest x n) ≤ suc n
    go true h = omega arith
    go false h = omega arith

greatest_reached : (x : Float) (n : ℕ) → 1 ≤ greatest x n → T (le (tenth (greatest x n)) x)
unfolding greatest
greatest_reached x zero h = absurd (omega arith)
greatest_reached x (suc n) h = go (le (tenth (suc n)) x) refl (greatest_reached x n) h
  where
    go : (b : Bool) → le (tenth (suc n)) x ≡ b → (1 ≤ greatest x n → T (le (tenth (greatest x n)) x)) → 1 ≤ cond b (suc n) (greatest x n)
        → T (le (tenth (cond b (suc n) (greatest x n))) x)
    go true e f h = subst T (sym e) tt
    go false e f h = f h

reached_le : (x : Float) (n k : ℕ) → k ≤ n → T (le (tenth k) x) → k ≤ greatest x n
unfolding greatest
reached_le x zero k h l = h
reached_le x (suc n) k h l = go (le (tenth (suc n)) x) refl (λ m. reached_le x n k m l)
  where
    last : n < k → k ≡ suc n
    last m = omega arith

    go : (b : Bool) → le (tenth (suc n)) x ≡ b → (k ≤ n → k ≤ greatest x n) → k ≤ cond b (suc n) (greatest x n)
    go true e f = h
    go false e f = f (by_contra k n (λ m. subst T (ap (λ (j : ℕ). le (tenth j) x) (last m) ∙ e) l))

pub most : (x : Float) → tenths_of x ≤ 219600
unfolding tenths_of
most x = greatest_le x 219600

reached : (x : Float) → 1 ≤ tenths_of x → T (le (tenth (tenths_of x)) x)
unfolding tenths_of
reached x h = greatest_reached x 219600 h

pub at_least : (x : Float) (k : ℕ) → k ≤ 219600 → le (tenth k) x ≡ true → k ≤ tenths_of x
unfolding tenths_of
at_least x k h e = reached_le x 219600 k h (subst T (sym e) tt)

pub below : (x : Float) (k : ℕ) → 1 ≤ k → le (tenth k) x ≡ false → tenths_of x < k
below x k K e = by_contra (suc (tenths_of x)) k (λ h. subst T e (fewer x k (tenths_of x) K (omega arith) (most x) (reached x (omega arith))))

-- ---- a speed that comes from counts

-- If a / b is below k / 10, it is at or below p / 2^33 too, where p is less than 2 below k × 2^33 / 10.
gap : (a b k p : ℕ) → 10 * a < k * b → b ≤ 134217728 → k * 8589934592 ≤ p * 10 + 19 → a * 8589934592 ≤ p * b
gap a b k p h hb hp =
    let x : k * 8589934592 * b ≤ (p * 10 + 19) * b = mul-le-mul_right b hp in
    omega arith

-- Two fractions between which two neighbours, (q - 1) / 2^33 and q / 2^33, lie stay apart once rounded.
pub stay_apart : (a b c d q : ℕ) → 1 ≤ b → 1 ≤ d → T (positive (round binary64 false a b)) → T (positive (round binary64 false c d)) → 2 ≤ q → q < 2 ^ 53
    → a * 8589934592 ≤ (q - 1) * b → q * d ≤ c * 8589934592 → T (le (round binary64 false c d) (round binary64 false a b)) → ⊥
stay_apart a b c d q B D lower-pos upper_pos some small below-low above-high l =
    let lower = round binary64 false a b in
    let upper = round binary64 false c d in
    let low = round binary64 false (q - 1) 8589934592 in
    let high = round binary64 false q 8589934592 in
    let low_value = part 33 (q - 1) (omega arith) (omega arith) in
    let high_value = part 33 q (omega arith) small in
    let low-pos = positive_of_value low (q - 1) 8589934592 low_value (omega arith) in
    let high-pos = positive_of_value high q 8589934592 high_value (omega arith) in
    let over = round_mono binary64 q 8589934592 c d (omega arith) D above-high in
    let under = round_mono binary64 a b (q - 1) 8589934592 B (omega arith) below-low in
    let up-to-lower = le_trans_positive high upper lower high-pos upper_pos lower-pos over l in
    let up-to-low = le_trans_positive high lower low high-pos lower-pos low-pos up-to-lower under in
    let bad : q * 8589934592 ≤ (q - 1) * 8589934592 = values_of_le high low q 8589934592 (q - 1) 8589934592 high-pos low-pos high_value low_value up-to-low in
    omega arith

missed : (a b k : ℕ) → 1 ≤ b → b ≤ 134217728 → T (positive (round binary64 false a b)) → 1 ≤ k → k ≤ 219600 → 10 * a < k * b
    → T (le (round binary64 false k 10) (round binary64 false a b)) → ⊥
missed a b k B hb speed-pos K hk h l =
    let q = k * 8589934592 / 10 in
    stay_apart a b k 10 q B (omega arith) speed-pos (tenth_positive k K hk) (omega arith) (omega arith) (gap a b k (q - 1) h hb (omega arith)) (omega arith) l

module _ (v ms : ℕ) (t : Timed v ms) where
  reaches : (k : ℕ) → k ≤ 219600 → k * ms ≤ 219600 * v → le (tenth k) (speed_of v ms) ≡ true
  reaches k hk h =
      rw (tenth_is k hk, speed_is v ms t)
      (is_true _ (round_mono binary64 k 10 (21960 * v) ms (omega arith) (some_millis v ms t) (omega arith)))

  reached_exactly : (k : ℕ) → 1 ≤ k → k ≤ 219600 → T (le (tenth k) (speed_of v ms)) → k * ms ≤ 219600 * v
  reached_exactly k K hk l =
      by_contra (k * ms) (219600 * v) (λ h.
      missed (21960 * v) ms k (some_millis v ms t) (few_millis v ms t) (speed_positive v ms t) K hk (omega arith)
      (rw (tenth_is k hk, speed_is v ms t) at l))

  pub tenths_exact : tenths_of (speed_of v ms) ≡ 219600 * v / ms
  tenths_exact =
      let x = speed_of v ms in
      let n = 219600 * v / ms in
      let few : n ≤ 219600 = div-le_of_le-mul ms (omega (arith, t.least)) in
      both_ways (tenths_of x) n
      (by_contra (tenths_of x) n (λ h.
      let g = (le-div_iff_mul-le (some_millis v ms t)).1 (reached_exactly (tenths_of x) (omega arith) (most x) (reached x (omega arith))) in
      omega arith))
      (by_contra n (tenths_of x) (λ h.
      let g = at_least x n few (reaches n few (div-mul-le_self (219600 * v) ms)) in
      omega arith))
