-- Of two vehicles that were timed, the one of the longer time is the slower one, also once both speeds are rounded.
use Prim.Native.Nat.{ℕ, suc, ◌+◌, ◌-◌, ◌*◌, ◌/◌, ◌^◌, ◌≤◌, ◌<◌}
use mathlib.Core.Path.{◌≡◌, refl, ◌∙◌, ap₂}
use mathlib.Core.Bool.{true, false}
use native.Mathlib.Omega.{arith, by_contra}
use native.Mathlib.Nat.{mul-le-mul_left, le-div_iff_mul-le, div-mul-le_self, div-le_self, div-add-mod', mod-lt, lt_of_le_of_lt}
use borrow.Author.Tests.{lt-ltb, le-ltb}
use lib.Dec.{T, ltb}
use lib.Ieee.{Float, nan, inf, fin, binary64, round, lt}
use lib.Ieee.Order.{round_mono}
use lib.Ieee.Positive.{num, den, positive, le→cross, cross→le}
use Rattle.speed.specs.Speed.{speed_of, Timed}
use Rattle.speed.proofs.SpeedLaws.{speed_is, speed_positive}
use Rattle.speed.proofs.TenthsLaws.{stay_apart}

-- Of two doubles above zero, the first is below the second by their fractions.
lt_cross : (x y : Float) → T (positive x) → T (positive y) → lt x y ≡ ltb (num x * den y) (num y * den x)
unfolding lt
lt_cross nan y p q = absurd p
lt_cross (inf s) y p q = absurd p
lt_cross (fin true m e) y p q = absurd p
lt_cross (fin false m e) nan p q = absurd q
lt_cross (fin false m e) (inf t) p q = absurd q
lt_cross (fin false m e) (fin true n d) p q = absurd q
lt_cross (fin false m e) (fin false n d) p q = refl

-- One vehicle in 1 to 65535 ms.
pub one_timed : (t : ℕ) → 1 ≤ t → t ≤ 65535 → Timed 1 t
one_timed t T1 ht = record { some = omega arith; few = omega arith; least = T1; most = omega arith }

abbrev rounded : ℕ → Float
rounded t = round binary64 false (21960 * 1) t

-- If r + 1 times u is less than u below n, and r is twice u at least, r times anything above u is not below n.
far_enough : (r u t n : ℕ) → n < (r + 1) * u + u → 2 * u ≤ r → u < t → n ≤ r * t
far_enough r u t n a b h = let over : r * (u + 1) ≤ r * t = mul-le-mul_left r (omega arith) in omega arith

module _ (t u : ℕ) (T1 : 1 ≤ t) (ht : t ≤ 65535) (U1 : 1 ≤ u) (hu : u ≤ 65535) where
  t_pos : T (positive (rounded t))
  t_pos = speed_positive 1 t (one_timed t T1 ht)

  u_pos : T (positive (rounded u))
  u_pos = speed_positive 1 u (one_timed u U1 hu)

  -- Both speeds are their quotients, rounded.
  by_rounded : lt (speed_of 1 t) (speed_of 1 u) ≡ ltb (num (rounded t) * den (rounded u)) (num (rounded u) * den (rounded t))
  by_rounded = ap₂ lt (speed_is 1 t (one_timed t T1 ht)) (speed_is 1 u (one_timed u U1 hu)) ∙ lt_cross (rounded t) (rounded u) t_pos u_pos

  -- The quotient of the shorter time is so far above the other that two neighbours lie between them.
  abbrev q : ℕ
  q = 21960 * 8589934592 / u

  many : 131072 ≤ q
  many = (le-div_iff_mul-le U1).1 (omega arith)

  few : q < 2 ^ 53
  few = lt_of_le_of_lt (div-le_self (21960 * 8589934592) u) (omega arith)

  neighbours : u < t → 21960 * 1 * 8589934592 ≤ (q - 1) * t
  neighbours h =
      let whole = div-add-mod' (21960 * 8589934592) u in
      let rest = mod-lt (21960 * 8589934592) U1 in
      let one : q - 1 + 1 ≡ q = omega (arith, many) in
      far_enough (q - 1) u t (21960 * 8589934592) (rw one (omega arith)) (omega (arith, many)) h

  pub slower : u < t → lt (speed_of 1 t) (speed_of 1 u) ≡ true
  slower h =
      by_rounded
      ∙ lt-ltb _ _ (by_contra (suc (num (rounded t) * den (rounded u))) (num (rounded u) * den (rounded t)) (λ n.
      stay_apart (21960 * 1) t (21960 * 1) u q T1 U1 t_pos u_pos (omega (arith, many)) few (neighbours h) (div-mul-le_self (21960 * 8589934592) u)
      (cross→le (rounded u) (rounded t) u_pos t_pos (omega arith))))

  pub not_slower : t ≤ u → lt (speed_of 1 t) (speed_of 1 u) ≡ false
  not_slower h =
      by_rounded
      ∙ le-ltb _ _ (le→cross (rounded u) (rounded t) u_pos t_pos (round_mono binary64 (21960 * 1) u (21960 * 1) t U1 T1 (omega arith)))
