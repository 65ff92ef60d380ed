-- A number's digits are those of its tenth part and one more; how many steps they are given does not matter. And how many there are at most.
use Prim.Native.Nat.{ℕ, zero, suc, ◌+◌, ◌*◌, ◌/◌, ◌%◌, ◌^◌, ◌≤◌, ◌<◌}
use mathlib.Core.Path.{◌≡◌, refl, ap}
use mathlib.Core.Bool.{Bool, true, false}
use mathlib.Core.List.{List, [], ◌∷◌, ◌++◌}
use native.Mathlib.Omega.{arith}
use borrow.Author.Tests.{lt-ltb, le-ltb, ltb-false}
use lib.Dec.{ltb}
use lib.ListN.{length, length-append}
use Rattle.text.specs.Decimal.{digits_in, decimal}

pub decimal_one : (n : ℕ) → n < 10 → decimal n ≡ (48 + n) ∷ []
unfolding decimal
decimal_one n h = rw (lt-ltb _ _ h)

one_step : (s t n : ℕ) (b : Bool) → ltb n 10 ≡ b → (10 ≤ n → digits_in s (n / 10) ≡ digits_in t (n / 10)) → digits_in (suc s) n ≡ digits_in (suc t) n
one_step s t n true e r = rw e
one_step s t n false e r = rw e (ap (λ (l : List ℕ). l ++ ((48 + n % 10) ∷ [])) (r (ltb-false n 10 e)))

steps_enough : (s t n : ℕ) → n < s → n < t → digits_in s n ≡ digits_in t n
steps_enough zero t n hs ht = absurd (omega arith)
steps_enough (suc s) zero n hs ht = absurd (omega arith)
steps_enough (suc s) (suc t) n hs ht = one_step s t n _ refl (λ h. steps_enough s t (n / 10) (omega arith) (omega arith))

pub decimal_more : (n : ℕ) → 10 ≤ n → decimal n ≡ decimal (n / 10) ++ ((48 + n % 10) ∷ [])
unfolding decimal
decimal_more n h = rw (le-ltb _ _ h) (ap (λ (l : List ℕ). l ++ ((48 + n % 10) ∷ [])) (steps_enough n (suc (n / 10)) (n / 10) (omega arith) (omega arith)))

-- A number below 10, 100, .. has one digit, two, ..
abbrev pub tens : ℕ → ℕ
tens zero = 10
tens (suc k) = tens k * 10

digits_more : (k n steps : ℕ) (small : Bool) → ltb n 10 ≡ small → n < tens k
    → ((k n : ℕ) → n < tens k → length (digits_in steps n) ≤ suc k)
    → length (digits_in (suc steps) n) ≤ suc k
digits_more k n steps true e h rest = rw e (omega arith)
digits_more zero n steps false e h rest = absurd (omega (arith, ltb-false n 10 e))
digits_more (suc k) n steps false e h rest =
    rw (e, length-append) (omega (arith, rest k (n / 10) (omega arith)))

digits_most : (steps k n : ℕ) → n < tens k → length (digits_in steps n) ≤ suc k
digits_most zero k n h = omega arith
digits_most (suc steps) k n h = digits_more k n steps _ refl h (digits_most steps)

pub decimal_most : (k n : ℕ) → n < tens k → length (decimal n) ≤ suc k
unfolding decimal
decimal_most k n h = digits_most (suc n) k n h

-- A number of the machine has 20 digits at most.
pub decimal_word : (n : ℕ) → n < 2 ^ 64 → length (decimal n) ≤ 20
decimal_word n h = decimal_most 19 n (omega arith)
