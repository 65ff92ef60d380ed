-- A double is out of a range exactly if it is below the one end, above the other, or no number.
use Prim.Native.Nat.{ℕ, ◌+◌, ◌*◌, ◌≤◌, ◌<◌}
use mathlib.Core.Path.{◌≡◌, refl}
use mathlib.Core.Bool.{Bool, true, false, not, ◌&&◌, ◌||◌}
use native.Mathlib.Omega.{arith}
use native.Mathlib.Nat.{mul-pos, eq-or-lt_of_le}
use mathlib.Core.Logic.{⊎_elim}
use borrow.Author.Tests.{lt-ltb, le-ltb, ltb-true, ltb-false, eq-eqb, ne_eqb, eqb-true, eqb-false}
use lib.Dec.{ltb, eqb}
use lib.Ieee.{Float, nan, inf, fin, level, lt, le, eq, ne, up, down}
use lib.Ieee.Fits.{down_pos}
use Rattle.speed.specs.Speed.{least_speed, most_speed}

-- Of two numbers, one is below the other exactly if that is not at or below it.
order : (p q : ℕ) → ltb p q ≡ not (ltb q p || (eqb q p && true))
order p q = by_cases (ltb p q) (eqb q p) refl refl
  where
    by_cases : (a b : Bool) → ltb p q ≡ a → eqb q p ≡ b → ltb p q ≡ not (ltb q p || (eqb q p && true))
    by_cases true b e d = let h = ltb-true p q e in rw (e, le-ltb q p (omega arith), ne_eqb q p (λ z. omega arith))
    by_cases false true e d = rw (e, d, eqb-true q p d, le-ltb p p (omega arith))
    by_cases false false e d = let h = ltb-false p q e in let n = eqb-false q p d in rw (e, lt-ltb q p (below p q h n))
      where
        below : (p q : ℕ) → q ≤ p → (q ≡ p → ⊥) → q < p
        below p q h n = ⊎_elim (λ (e : q ≡ p). absurd (n e)) (λ l. l) (eq-or-lt_of_le h)

-- A double below 0 is below the lower end.
negative : (a b : ℕ) (other rest : Bool) → 0 < b → (ltb 0 (a + b) || other) ≡ not (level false b true a && rest)
negative a b other rest some = rw (lt-ltb 0 (a + b) (omega arith), ne_eqb b 0 (λ z. omega arith)) (neither (eqb b a))
  where
    neither : (t : Bool) → true ≡ not ((t && false) && rest)
    neither true = refl
    neither false = refl

-- Of one that is not, a number p / q against the lower end and r / s against the upper one.
not_negative : (p q r s k : ℕ) → (ltb p q || (ltb r s || not (eqb k k && true))) ≡ not ((ltb q p || (eqb q p && true)) && (ltb s r || (eqb s r && true)))
not_negative p q r s k = rw (eq-eqb k k refl, order p q, order r s) (both (ltb q p || (eqb q p && true)) (ltb s r || (eqb s r && true)))
  where
    both : (a b : Bool) → (not a || (not b || false)) ≡ not (a && b)
    both true true = refl
    both true false = refl
    both false b = refl

pub out_of_ends : (x : Float) → (lt x least_speed || (lt most_speed x || ne x x)) ≡ not (le least_speed x && le x most_speed)
unfolding lt le eq ne
out_of_ends nan = refl
out_of_ends (inf true) = refl
out_of_ends (inf false) = refl
out_of_ends (fin true m e) = negative (m * up e * 4) (1 * down e) _ _ (mul-pos (omega arith) (down_pos e))
out_of_ends (fin false m e) = not_negative (m * up e * 4) (1 * down e) (21960 * down e) (m * up e * 1) (m * up e * down e)
