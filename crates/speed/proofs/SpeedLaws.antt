-- The rounded quotient: its bound, its test against a whole threshold, and its range.
use Prim.Native.Nat.{ℕ, zero, suc, ◌+◌, ◌-◌, ◌*◌, ◌/◌, ◌%◌, ◌^◌, ◌≤◌, ◌<◌, compare}
use mathlib.Core.Path.{◌≡◌, refl, sym, ap, ap₂, ◌∙◌, subst}
use mathlib.Core.Bool.{Bool, true, false, not, ◌&&◌, ◌||◌, true≢false}
use mathlib.Core.Logic.{inl, inr, ◌⊎◌}
use native.Mathlib.Omega.{arith, by_contra}
use borrow.Author.Tests.{ne_eqb, lt-ltb, le-ltb}
use native.Mathlib.Nat.{zero-mul, le_trans, le_of_eq, le_of_lt, suc-mul, lt_of_lt_of_le, lt_of_not-le, not-le_of_lt, le_of_mul-le-mul_right, lt_of_mul-lt-mul_right, mul-one, one-mul, mul_comm, mul_assoc, mul_left_comm, mul_right_comm, mul-le-mul_left, mul-le-mul_right, mul-pos, le-div_iff_mul-le, div-mul-le_self, div-add-mod', mod-lt, add-mul}
use lib.Dec.{T, leb, ltb, eqb, leb→le, le→leb, ltb→lt, eqb→eq, eqb-suc-zero}
use lib.IntN.{pos}
use lib.Pow.{pow-add, pow_pos, pow_mono, shl_lt}
use lib.Ieee.{Float, nan, inf, fin, binary64, up, down, size, round, div, le, eq, ne, of_int, is_nan, nan_bits, of_bits, in_float}
use lib.Ieee.Digits.{size-lt, size_reaches}
use lib.Ieee.Fits.{nearest-le, down_pos, up_pos, and_l}
use lib.Ieee.Exact.{HasValue, round_exact}
use lib.Ieee.Nearest.{closest, nearest-ge}
use lib.Ieee.Order.{drop, round_mono}
use lib.Ieee.Scale.{round_same, round_val, round_under}
use lib.Ieee.Back.{round_whole}
use lib.Ieee.Positive.{positive, positive_of_value, positive-finite, between, values_of_le, le_trans_positive}
use lib.Ieee.Bits.{is_true, nan_bits_is, nan_bits_above}
use lib.Ieee.Compare.{differs_from_itself}
use Rattle.speed.specs.Speed.{speed_of, Timed, apart, Near, SpeedNear, at_most, TestsExactly, no_speed, least_speed, most_speed, speed_spoilt}

or_cases : (a b : Bool) → T (a || b) → T a ⊎ T b
or_cases true b t = inl tt
or_cases false b t = inr t

-- The quotient of two whole numbers that the format holds is their fraction, rounded once.
pub div_at : (x y : Float) (a b : ℕ) → 0 < b → HasValue x false a 1 → HasValue y false b 1 → div binary64 x y ≡ round binary64 false a b
unfolding div
div_at nan y a b B p q = absurd p
div_at (inf s) y a b B p q = absurd p
div_at (fin true m e) y a b B p q = absurd (true≢false p.0)
div_at (fin false m e) nan a b B p q = absurd q
div_at (fin false m e) (inf t) a b B p q = absurd q
div_at (fin false m e) (fin true n d) a b B p q = absurd (true≢false q.0)
div_at (fin false m e) (fin false zero d) a b B p q =
    absurd (not-le_of_lt (mul-pos B (down_pos d)) (le_of_eq (sym q.1 ∙ mul-one (0 * up d) ∙ zero-mul (up d))))
div_at (fin false m e) (fin false (suc n) d) a b B p q =
    let x : m * up e ≡ a * down e = sym (mul-one (m * up e)) ∙ p.1 in
    let y : suc n * up d ≡ b * down d = sym (mul-one (suc n * up d)) ∙ q.1 in
    rw (eqb-suc-zero n)
    (round_same binary64 false (m * up e * down d) (suc n * up d * down e) a b
    (mul-pos (subst (λ (k : ℕ). 0 < k) (sym y) (mul-pos B (down_pos d))) (down_pos e)) B
    (ap (λ (k : ℕ). k * down d * b) x ∙ cross a (down e) (down d) b ∙ ap (λ (k : ℕ). a * (k * down e)) (sym y)))
  where
    cross : (a e d b : ℕ) → a * e * d * b ≡ a * (b * d * e)
    cross a e d b = simp (mul_assoc, mul_comm, mul_left_comm)

pub quotient_is : (v ms : ℕ) → v ≤ 1800 → 1 ≤ ms → ms ≤ 134217728 → speed_of v ms ≡ round binary64 false (21960 * v) ms
unfolding speed_of of_int
quotient_is v ms hv B hb =
    div_at (round binary64 false (21960 * v) 1) (round binary64 false ms 1) (21960 * v) ms (omega arith)
    (round_whole binary64 false (21960 * v) (omega arith)) (round_whole binary64 false ms (omega arith))

-- A fraction to the nearest whole number is off by less than 1.
fraction : (n u : ℕ) → 0 < u → (closest n u * u ≤ n + u) × (n ≤ closest n u * u + u)
fraction n u h =
    let o = compare (n % u * 2) u in
    let a : n / u * u ≤ n = div-mul-le_self n u in
    let b : closest n u * u ≤ suc (n / u) * u = mul-le-mul_right u (nearest-le (n / u) o) in
    let c : suc (n / u) * u ≡ n / u * u + u = suc-mul (n / u) u in
    let d : n / u * u + n % u ≡ n = div-add-mod' n u in
    let e : n / u * u ≤ closest n u * u = mul-le-mul_right u (nearest-ge (n / u) o) in
    let f : n % u < u = mod-lt n h in
    (omega (arith, a, b, c), omega (arith, d, e, f))

-- x is finite, not negative, and |x - a / b| ≤ a / b / p, in two halves.
abbrev NearBy : ℕ → Float → ℕ → ℕ → Type 0
NearBy p nan a b = ⊥
NearBy p (inf s) a b = ⊥
NearBy p (fin s m e) a b =
    (s ≡ false) × ((m * up e * b * p ≤ a * down e * p + a * down e) × (a * down e * p ≤ m * up e * b * p + a * down e))

halves : (n d : ℕ) → n * 2 ^ 52 ≤ d * 2 ^ 52 + d → d * 2 ^ 52 ≤ n * 2 ^ 52 + d → apart n d * 2 ^ 52 ≤ d
halves n d h k = omega arith

near_halves : (x : Float) (a b : ℕ) → T (positive x) → NearBy (2 ^ 52) x a b → Near x a b
near_halves nan a b p n = absurd n
near_halves (inf s) a b p n = absurd n
near_halves (fin s m e) a b p n = record { finite = is_true (positive (fin s m e)) p; off = halves (m * up e * b) (a * down e) n.1.0 n.1.1 }

-- x is q * w / l, and a / b is off q * w / l by w / l at the most, which is a part p of a / b.
near_of : (x : Float) (a b q w l p : ℕ) → 0 < l → HasValue x false (q * w) l → q * (b * w) ≤ a * l + b * w → a * l ≤ q * (b * w) + b * w → b * w * p ≤ a * l
    → NearBy p x a b
near_of nan a b q w l p L v over under small = absurd v
near_of (inf s) a b q w l p L v over under small = absurd v
near_of (fin s m e) a b q w l p L v over under small =
    let y = m * up e in
    let d = down e in (
      v.0,
      (
        le_of_mul-le-mul_right (upper y d v.1) L,
        le_of_mul-le-mul_right (lower y d v.1) L,
      ),
    )
  where
    whole : (y d : ℕ) → y * l ≡ q * w * d → y * b * p * l ≡ q * (b * w) * (d * p)
    whole y d h = mix y b p l ∙ ap (λ (z : ℕ). z * (b * p)) h ∙ mixed q w d b p
      where
        mix : (y b p l : ℕ) → y * b * p * l ≡ y * l * (b * p)
        mix y b p l = simp (mul_assoc, mul_comm, mul_left_comm)

        mixed : (q w d b p : ℕ) → q * w * d * (b * p) ≡ q * (b * w) * (d * p)
        mixed q w d b p = simp (mul_assoc, mul_comm, mul_left_comm)

    exact : (d : ℕ) → (a * d * p + a * d) * l ≡ a * l * (d * p) + a * l * d
    exact d = add-mul (a * d * p) (a * d) l ∙ ap₂ (λ (x y : ℕ). x + y) (one a d p l) (mul_right_comm a d l)
      where
        one : (a d p l : ℕ) → a * d * p * l ≡ a * l * (d * p)
        one a d p l = simp (mul_assoc, mul_comm, mul_left_comm)

    part_of : (d : ℕ) → b * w * (d * p) ≤ a * l * d
    part_of d = le_trans (le_of_eq (turn (b * w) d p)) (mul-le-mul_right d small)
      where
        turn : (x d p : ℕ) → x * (d * p) ≡ x * p * d
        turn x d p = simp (mul_assoc, mul_comm)

    upper : (y d : ℕ) → y * l ≡ q * w * d → y * b * p * l ≤ (a * d * p + a * d) * l
    upper y d h =
        let i : q * (b * w) * (d * p) ≤ (a * l + b * w) * (d * p) = mul-le-mul_right (d * p) over in
        let j : (a * l + b * w) * (d * p) ≡ a * l * (d * p) + b * w * (d * p) = add-mul (a * l) (b * w) (d * p) in
        let w' = whole y d h in
        let s = part_of d in
        let x = exact d in
        omega (arith, i, j, w', s, x)

    lower : (y d : ℕ) → y * l ≡ q * w * d → a * d * p * l ≤ (y * b * p + a * d) * l
    lower y d h =
        let i : a * l * (d * p) ≤ (q * (b * w) + b * w) * (d * p) = mul-le-mul_right (d * p) under in
        let j : (q * (b * w) + b * w) * (d * p) ≡ q * (b * w) * (d * p) + b * w * (d * p) = add-mul (q * (b * w)) (b * w) (d * p) in
        let o = one a d p l in
        let s = part_of d in
        let t = add-mul (y * b * p) (a * d) l in
        let w' = whole y d h in
        let x = mul_right_comm a d l in
        omega (arith, o, i, j, s, t, w', x)
      where
        one : (a d p l : ℕ) → a * d * p * l ≡ a * l * (d * p)
        one a d p l = simp (mul_assoc, mul_comm, mul_left_comm)

-- So much per 2^j is a value of the format.
pub part : (j q : ℕ) → j ≤ 1074 → q < 2 ^ 53 → HasValue (round binary64 false q (2 ^ j)) false q (2 ^ j)
part j q J h = round_exact binary64 false q (2 ^ j) q (1074 - j) (pow_pos j) h fine unit
  where
    fine : q * 2 ^ (1074 - j) < 2 ^ (1074 + 1024)
    fine = lt_of_lt_of_le (shl_lt 53 (1074 - j) h) (pow_mono {i = 53 + (1074 - j)} {j = 1074 + 1024} (omega arith))

    whole : (1074 - j) + j ≡ 1074
    whole = omega arith

    unit : q * 2 ^ 1074 ≡ q * 2 ^ (1074 - j) * 2 ^ j
    unit = ap (λ (n : ℕ). q * 2 ^ n) (sym whole) ∙ ap (λ (x : ℕ). q * x) (pow-add 2 (1074 - j) j) ∙ sym (mul_assoc q (2 ^ (1074 - j)) (2 ^ j))

-- A fraction of at most 2^27 over at most 2^27, and at least 1 / 2^27, is positive and finite once rounded.
module _ (a b : ℕ) (A : 1 ≤ a) (ha : a ≤ 134217728) (B : 1 ≤ b) (hb : b ≤ 134217728) where
  abbrev r : Float
  r = round binary64 false a b

  least : Float
  least = round binary64 false 1 134217728

  most : Float
  most = round binary64 false 134217728 1

  least_positive : T (positive least)
  unfolding least
  least_positive = positive_of_value least 1 134217728 (part 27 1 (omega arith) (omega arith)) (omega arith)

  most_positive : T (positive most)
  unfolding most
  most_positive = positive_of_value most 134217728 1 (round_whole binary64 false 134217728 (omega arith)) (omega arith)

  pub r_positive : T (positive (round binary64 false a b))
  unfolding least most
  r_positive =
      between least (round binary64 false a b) most least_positive most_positive
      (round_mono binary64 1 134217728 a b (omega arith) (omega arith) (omega arith))
      (round_mono binary64 a b 134217728 1 (omega arith) (omega arith) (omega arith))

  -- ---- the test against a whole threshold

  at_most_lem : (t : ℕ) → a ≤ t * b → T (le (round binary64 false a b) (round binary64 false t 1))
  at_most_lem t h = round_mono binary64 a b t 1 (omega arith) (omega arith) (le_trans (le_of_eq (mul-one a)) h)

  -- Above the threshold the fraction is at least 1 / 2^27 above it, and that sum is a value of the format.
  more : (t : ℕ) → t * b < a → (t * 134217728 + 1) * b ≤ a * 134217728
  more t h =
      let x : (t * 134217728 + 1) * b ≡ t * b * 134217728 + b = add-mul (t * 134217728) 1 b ∙ omega (arith, mul_right_comm t 134217728 b, one-mul b) in
      omega (arith, x)

  not_above : (t : ℕ) → 1 ≤ t → t ≤ 21960 → T (le (round binary64 false a b) (round binary64 false t 1)) → t * b < a → ⊥
  not_above t T1 ht l h =
      let q = t * 134217728 + 1 in
      let over = round binary64 false q 134217728 in
      let whole = round_whole binary64 false t (omega arith) in
      let v = part 27 q (omega arith) (omega arith) in
      let over-pos = positive_of_value over q 134217728 v (omega arith) in
      let t_pos = positive_of_value (round binary64 false t 1) t 1 whole (omega arith) in
      let below = round_mono binary64 q 134217728 a b (omega arith) (omega arith) (more t h) in
      let chain = le_trans_positive over (round binary64 false a b) (round binary64 false t 1) over-pos r_positive t_pos below l in
      let bad : q * 1 ≤ t * 134217728 = values_of_le over (round binary64 false t 1) q 134217728 t 1 over-pos t_pos v whole chain in
      omega (arith, mul-one q)

  -- Nothing positive is at or below 0.
  not_zero : (x : Float) → T (positive x) → T (le x (fin false 0 (pos 0))) → ⊥
  unfolding le
  not_zero nan p l = absurd l
  not_zero (inf s) p l = absurd p
  not_zero (fin true m e) p l = absurd p
  not_zero (fin false m e) p l =
      let some : 0 < m * up e * 1 = mul-pos (mul-pos (ltb→lt 0 m p) (up_pos e)) (omega arith) in
      let none : m * up e * 1 ≤ 0 * 1 * down e = or_le (m * up e * 1) (0 * 1 * down e) _ l in
      not-le_of_lt some (le_trans none (le_of_eq (zero-mul (down e))))
    where
      or_le : (a b : ℕ) (c : Bool) → T (ltb a b || (eqb a b && c)) → a ≤ b
      or_le a b c t = elim (or_cases (ltb a b) (eqb a b && c) t) [ inl x ↦ le_of_lt (ltb→lt a b x) | inr y ↦ le_of_eq (eqb→eq a b (and_l (eqb a b) c y)) ]

  no_speed_lem : round binary64 false 0 1 ≡ fin false 0 (pos 0)
  unfolding round
  no_speed_lem = refl

  -- The fraction is at most 21960, so that no greater threshold is below it.
  small : (t : ℕ) → a ≤ 21960 * b → t * b < a → t ≤ 21960
  small t steep h = le_of_lt (lt_of_mul-lt-mul_right b (lt_of_lt_of_le h steep))

  above : (t : ℕ) → a ≤ 21960 * b → T (le (round binary64 false a b) (round binary64 false t 1)) → t * b < a → ⊥
  above zero steep l h = not_zero (round binary64 false a b) r_positive (subst (λ (x : Float). T (le (round binary64 false a b) x)) no_speed_lem l)
  above (suc t) steep l h = not_above (suc t) (omega arith) (small (suc t) steep h) l h

  pub test_agrees : a ≤ 21960 * b → (t : ℕ) → le (round binary64 false a b) (round binary64 false t 1) ≡ leb a (t * b)
  test_agrees steep t = same _ _ (λ l. le→leb a (t * b) (by_contra a (t * b) (above t steep l))) (λ l. at_most_lem t (leb→le a (t * b) l))
    where
      same : (x y : Bool) → (T x → T y) → (T y → T x) → x ≡ y
      same true true f g = refl
      same true false f g = absurd (f tt)
      same false true f g = absurd (g tt)
      same false false f g = refl

  -- ---- the bound

  abbrev n : ℕ
  n = a * 2 ^ 1074

  abbrev k : ℕ
  k = drop 53 n b

  abbrev u : ℕ
  u = b * 2 ^ k

  abbrev q : ℕ
  q = closest n u

  -- In units of the smallest value the fraction is long: its whole part has 53 digits at least.
  long : 2 ^ 52 ≤ n / b
  long = (le-div_iff_mul-le {k = b} (omega arith)).1 (le_trans (mul-le-mul_left (2 ^ 52) hb) (le_trans (pow_mono {i = 79} {j = 1074} (omega arith)) (le_trans (le_of_eq (sym (one-mul (2 ^ 1074)))) (mul-le-mul_right (2 ^ 1074) A))))

  digits : 52 + k < size (n / b)
  digits = enough (size (n / b)) (lt_of_not-le (λ (g : size (n / b) ≤ 52). not-le_of_lt (lt_of_lt_of_le (size-lt (n / b)) (pow_mono g)) long))
    where
      enough : (z : ℕ) → 52 < z → 52 + (z - 53) < z
      enough z h = omega arith

  -- So the last digit kept weighs 2^-52 of the whole at the most.
  unit_small : u * 2 ^ 52 ≤ n
  unit_small = le_trans (le_of_eq (order b (2 ^ k))) ((le-div_iff_mul-le {k = b} (omega arith)).0 (le_trans (le_of_eq (sym (pow-add 2 52 k))) (size_reaches (n / b) (52 + k) digits)))
    where
      order : (b x : ℕ) → b * x * 2 ^ 52 ≡ 2 ^ 52 * x * b
      order b x = simp (mul_assoc, mul_comm, mul_left_comm)

  u_pos : 0 < u
  u_pos = mul-pos (omega arith) (pow_pos k)

  round_near : HasValue (round binary64 false a b) false (q * 2 ^ k) (2 ^ 1074)
  round_near = round_val binary64 a b (round_under binary64 a b (positive-finite (round binary64 false a b) r_positive))

  pub near : Near (round binary64 false a b) a b
  near = near_halves (round binary64 false a b) a b r_positive (near_of (round binary64 false a b) a b q (2 ^ k) (2 ^ 1074) (2 ^ 52) (pow_pos 1074) round_near (fraction n u u_pos).0 (fraction n u u_pos).1 unit_small)

-- What the call promises.
module _ (v ms : ℕ) (t : Timed v ms) where
  pub some_millis : 1 ≤ ms
  some_millis = omega (arith, t.some, t.least)

  pub few_millis : ms ≤ 134217728
  few_millis = omega (arith, t.few, t.most)

  some_way : 1 ≤ 21960 * v
  some_way = omega (arith, t.some)

  small_way : 21960 * v ≤ 134217728
  small_way = omega (arith, t.few)

  abbrev rounded : Float
  rounded = round binary64 false (21960 * v) ms

  pub speed_is : speed_of v ms ≡ rounded
  speed_is = quotient_is v ms t.few some_millis few_millis

  pub speed_positive : T (positive rounded)
  speed_positive = r_positive (21960 * v) ms some_way small_way some_millis few_millis

  pub speed_near : SpeedNear (speed_of v ms) v ms
  unfolding SpeedNear
  speed_near = subst (λ (x : Float). Near x (21960 * v) ms) (sym speed_is) (near (21960 * v) ms some_way small_way some_millis few_millis)

  pub speed_tests : TestsExactly (speed_of v ms) v ms
  unfolding of_int TestsExactly at_most
  speed_tests k =
      ap (λ (x : Float). le x (round binary64 false k 1)) speed_is
      ∙ test_agrees (21960 * v) ms some_way small_way some_millis few_millis (mul-le-mul_left 21960 t.least) k

  -- From 1 / 4 to 21960, which are values of the format; rounding keeps the order.
  least_is : round binary64 false 1 4 ≡ least_speed
  unfolding round
  least_is = refl

  most_is : round binary64 false 21960 1 ≡ most_speed
  unfolding round
  most_is = refl

  not_slower : T (le least_speed rounded)
  not_slower = subst (λ (x : Float). T (le x rounded)) least_is (round_mono binary64 1 4 (21960 * v) ms (omega arith) some_millis (omega (arith, t.most)))

  not_faster : T (le rounded most_speed)
  not_faster = subst (λ (x : Float). T (le rounded x)) most_is (round_mono binary64 (21960 * v) ms 21960 1 some_millis (omega arith) (omega (arith, t.least)))

  -- What is above 0 is not 0.
  not_none : (x : Float) → T (positive x) → eq x no_speed ≡ false
  unfolding eq
  not_none nan p = absurd p
  not_none (inf s) p = absurd p
  not_none (fin true m e) p = absurd p
  not_none (fin false m e) p = differs (m * up e * 1) (mul-pos (mul-pos (ltb→lt 0 m p) (up_pos e)) (omega arith)) (0 * 1 * down e) (zero-mul (down e))
    where
      differs : (a : ℕ) → 0 < a → (b : ℕ) → b ≡ 0 → eqb a b && (true || eqb a 0) ≡ false
      differs a h b e = rw (e, ne_eqb a 0 (λ z. omega arith))

  pub speed_some : eq (speed_of v ms) no_speed ≡ false
  speed_some = ap (λ (x : Float). eq x no_speed) speed_is ∙ not_none rounded speed_positive

  pub speed_kept : speed_spoilt (speed_of v ms) ≡ false
  unfolding speed_spoilt
  speed_kept = rw (speed_some, speed_is, is_true (le least_speed rounded) not_slower, is_true (le rounded most_speed) not_faster)

-- A double that does not differ from itself is a number, and one that does is none.
pub some_number : (x : Float) → ne x x ≡ false → T (not (is_nan x))
unfolding ne is_nan
some_number nan e = absurd (true≢false e)
some_number (inf s) e = tt
some_number (fin s m e) h = tt

pub no_number : (x : Float) → ne x x ≡ true → x ≡ nan
no_number x e = differs_from_itself x (subst T (sym e) tt)

-- The patterns above an infinity's are those of no number.
is_nan_lem : (x : Float) → is_nan x ≡ true → x ≡ nan
unfolding is_nan
is_nan_lem nan e = refl
is_nan_lem (inf s) e = absurd (true≢false (sym e))
is_nan_lem (fin s m d) e = absurd (true≢false (sym e))

pub nan_pattern : (n : ℕ) → 9218868437227405312 < n % 9223372036854775808 → of_bits binary64 n ≡ nan
nan_pattern n h = is_nan_lem (of_bits binary64 n) (sym (nan_bits_is binary64 n) ∙ nan_bits_above binary64 n ∙ lt-ltb _ _ h)

pub number_pattern : (n : ℕ) → n % 9223372036854775808 ≤ 9218868437227405312 → T (not (nan_bits binary64 n))
number_pattern n h = subst (λ (b : Bool). T (not b)) (sym (nan_bits_above binary64 n ∙ le-ltb _ _ h)) tt

pub zero_by_zero : div binary64 (of_bits binary64 0) (of_bits binary64 0) ≡ nan
unfolding div of_bits
zero_by_zero = refl

-- A whole number that a double holds.
pub held : (n : ℕ) → n ≤ 9007199254740992 → T (in_float binary64 (pos n))
unfolding in_float
held n h = le→leb n 9007199254740992 h
