-- What two day masks share is all of one of them exactly if the other lacks none of its days: bit by bit.
use Prim.Native.Nat.{ℕ, zero, suc, ◌+◌, ◌*◌, ◌/◌, ◌%◌, ◌^◌, ◌<◌, min}
use mathlib.Core.Path.{◌≡◌, refl, sym, ap, ap₂, ◌∙◌}
use mathlib.Core.Bool.{Bool, true, false, not, ◌&&◌, ◌||◌}
use mathlib.Core.Logic.{⊎_elim}
use native.Mathlib.Nat.{eq-or-lt_of_le, zero-min, div-one, mod-one, pow-suc, pow-succ', div-div-eq-div-mul}
use native.Mathlib.Numerals.{add-one}
use native.Mathlib.Omega.{arith}
use borrow.Author.Tests.{eq-eqb, ne_eqb, eqb-true, eqb-false, le-leb, lt-leb}
use lib.Arith.{digits_div, digits_mod, mod-mul}
use lib.Bits.{bit_and, and_step, and_le_l, and_mask}
use lib.Dec.{leb, eqb}
use lib.Pow.{pow_pos}
use Rattle.loops.specs.Any.{any_from}
use Rattle.loops.proofs.Cases.{by_test}
use Rattle.plan.specs.declared.Entry.{Entry}
use Rattle.plan.specs.Entry.{day_types, on_day}
use Rattle.joining.specs.Joining.{lacks}

abbrev bit : ℕ → ℕ → Bool
bit a day = eqb (a / 2 ^ day % 2) 1

-- The one has this bit, and the other does not.
abbrev misses : ℕ → ℕ → ℕ → Bool
misses a b day = bit a day && not (bit b day)

next_bit : (a day : ℕ) → bit a (day + 1) ≡ bit (a / 2) day
next_bit a day =
    let e : a / 2 ^ (day + 1) ≡ a / 2 / 2 ^ day =
    ap (λ (k : ℕ). a / 2 ^ k) (add-one day) ∙ ap (λ (k : ℕ). a / k) (pow-succ' 2 day) ∙ sym (div-div-eq-div-mul a 2 (2 ^ day)) in
    ap (λ (k : ℕ). eqb (k % 2) 1) e

any_next : (p q : ℕ → Bool) → ((day : ℕ) → p (day + 1) ≡ q day) → (i n : ℕ) → any_from p (i + 1) n ≡ any_from q i n
any_next p q f i zero = refl
any_next p q f i (suc n) = ap₂ (λ (x y : Bool). x || y) (f i) (any_next p q f (i + 1) n)

-- Numbers are the same if their last bits are, and the rest.
same_bits : (a b c d : ℕ) → b < 2 → d < 2 → eqb (a * 2 + b) (c * 2 + d) ≡ (eqb a c && eqb b d)
same_bits a b c d h g =
    by_test (eqb a c)
    (λ t.
    let e = eqb-true a c t in
    by_test (eqb b d)
    (λ u. let f = eqb-true b d u in rw (t, u) (eq-eqb (a * 2 + b) (c * 2 + d) (omega arith)))
    (λ u. let n = eqb-false b d u in rw (t, u) (ne_eqb (a * 2 + b) (c * 2 + d) (λ q. n (omega arith)))))
    (λ t. let n = eqb-false a c t in rw t (ne_eqb (a * 2 + b) (c * 2 + d) (λ q. n (omega arith))))

last_bit : (a b : ℕ) → a < 2 → b < 2 → eqb (min a b) a ≡ not (eqb a 1 && not (eqb b 1))
last_bit zero b h g = rw (zero-min b)
last_bit (suc zero) zero h g = refl
last_bit (suc zero) (suc zero) h g = refl
last_bit (suc zero) (suc (suc b)) h g = absurd (omega arith)
last_bit (suc (suc a)) b h g = absurd (omega arith)

neither_nor : (a b : Bool) → (not b && not a) ≡ not (a || b)
neither_nor true true = refl
neither_nor true false = refl
neither_nor false true = refl
neither_nor false false = refl

shares_all : (n a b : ℕ) → eqb (bit_and (a % 2 ^ n) b) (a % 2 ^ n) ≡ not (any_from (misses a b) 0 n)
shares_all zero a b = ap (λ (k : ℕ). eqb (bit_and k b) k) (mod-one a)
shares_all (suc n) a b =
    let x = a / 2 % 2 ^ n in
    let y = a % 2 in
    let z = b % 2 in
    let l : y < 2 = omega arith in
    let m : z < 2 = omega arith in
    let e : a % 2 ^ suc n ≡ x * 2 + y = ap (λ (k : ℕ). a % k) (pow-suc 2 n) ∙ mod-mul a (pow_pos n) (omega arith) in
    let s : bit_and (x * 2 + y) b ≡ bit_and x (b / 2) * 2 + min y z =
    and_step (x * 2 + y) b ∙ ap₂ (λ (j k : ℕ). bit_and j (b / 2) * 2 + min k z) (digits_div x l) (digits_mod x l) in
    let zeroth : (c : ℕ) → bit c 0 ≡ eqb (c % 2) 1 = λ c. ap (λ (k : ℕ). eqb (k % 2) 1) (div-one c) in
    let here : eqb (min y z) y ≡ not (misses a b 0) =
    last_bit y z l m ∙ ap₂ (λ (j k : Bool). not (j && not k)) (sym (zeroth a)) (sym (zeroth b)) in
    let rest : any_from (misses (a / 2) (b / 2)) 0 n ≡ any_from (misses a b) 1 n =
    sym (any_next (misses a b) (misses (a / 2) (b / 2)) (λ day. ap₂ (λ (j k : Bool). j && not k) (next_bit a day) (next_bit b day)) 0 n) in
    ap (λ (k : ℕ). eqb (bit_and k b) k) e
    ∙ ap (λ (k : ℕ). eqb k (x * 2 + y)) s
    ∙ same_bits (bit_and x (b / 2)) (min y z) x y (omega arith) l
    ∙ ap₂ (λ (j k : Bool). j && k) (shares_all n (a / 2) (b / 2) ∙ ap not rest) here
    ∙ neither_nor (misses a b 0) (any_from (misses a b) 1 n)

-- What is shared is no more than all, so as much is all.
no_less : (a b : ℕ) → leb a (bit_and a b) ≡ eqb (bit_and a b) a
no_less a b =
    let l = and_le_l a b in
    by_test (eqb (bit_and a b) a)
    (λ t. let e = eqb-true (bit_and a b) a t in le-leb a (bit_and a b) (omega arith) ∙ sym t)
    (λ f. let n = eqb-false (bit_and a b) a f in lt-leb a (bit_and a b) (⊎_elim (λ (q : bit_and a b ≡ a). absurd (n q)) (λ (q : bit_and a b < a). q) (eq-or-lt_of_le l)) ∙ sym f)

-- Of the eight bits of an entry's days.
pub all_days : (other e : Entry) → leb (bit_and e.days 255) (bit_and (bit_and e.days 255) other.days) ≡ not (any_from (lacks other e) 0 day_types)
unfolding lacks on_day
all_days other e =
    no_less (bit_and e.days 255) other.days
    ∙ ap (λ (k : ℕ). eqb (bit_and k other.days) k) (and_mask e.days 8)
    ∙ shares_all 8 e.days other.days
