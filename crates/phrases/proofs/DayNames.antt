-- Each of the eight days has a name of three letters; any other day is a dash. And how long a name of a table is at most.
use Prim.Native.Nat.{ℕ, zero, suc, ◌≤◌, ◌<◌}
use mathlib.Core.Path.{◌≡◌, refl, sym}
use mathlib.Core.Bool.{Bool, true, false, cond, true≢false}
use mathlib.Core.List.{List, [], ◌∷◌}
use native.Mathlib.Omega.{arith}
use borrow.Author.Tests.{leb-true}
use lib.Dec.{leb}
use lib.ListN.{length, get_or, get_or-eq_default}
use Rattle.text.specs.Ascii.{ascii}
use Rattle.phrases.specs.Phrases.{day_names, day_name}

-- In a list, what stands for the places beyond it does not matter.
in_list : (names : List (List ℕ)) (x y : List ℕ) (d : ℕ) → d < length names → get_or names d x ≡ get_or names d y
in_list [] x y d h = absurd (omega arith)
in_list (name ∷ names) x y zero h = refl
in_list (name ∷ names) x y (suc d) h = in_list names x y d (omega arith)

pub named : (d : ℕ) → d < 8 → day_name d ≡ get_or day_names d []
unfolding day_name
named d h = in_list day_names (ascii "-") [] d h

pub three_letters : (d : ℕ) → d < 8 → length (get_or day_names d []) ≡ 3
three_letters zero h = refl
three_letters (suc zero) h = refl
three_letters (suc (suc zero)) h = refl
three_letters (suc (suc (suc zero))) h = refl
three_letters (suc (suc (suc (suc zero)))) h = refl
three_letters (suc (suc (suc (suc (suc zero))))) h = refl
three_letters (suc (suc (suc (suc (suc (suc zero)))))) h = refl
three_letters (suc (suc (suc (suc (suc (suc (suc zero))))))) h = refl
three_letters (suc (suc (suc (suc (suc (suc (suc (suc d)))))))) h = absurd (omega arith)

pub no_name : (d : ℕ) → 8 ≤ d → day_name d ≡ ascii "-"
unfolding day_name
no_name d h = get_or-eq_default day_names (ascii "-") {n = d} h

-- A name of a table, or what stands for a place beyond it, is no longer than the longest.
abbrev pub all_short : ℕ → List (List ℕ) → Bool
all_short k [] = true
all_short k (x ∷ xs) = cond (leb (length x) k) (all_short k xs) false

short_case : (k : ℕ) (x : List ℕ) (xs : List (List ℕ)) (b : Bool) → leb (length x) k ≡ b → all_short k (x ∷ xs) ≡ true → (length x ≤ k) × (all_short k xs ≡ true)
short_case k x xs true e h = (leb-true (length x) k e, rw e at h)
short_case k x xs false e h = absurd (true≢false (sym (rw e at h)))

pub name_most : (k : ℕ) (beyond : List ℕ) (names : List (List ℕ)) → length beyond ≤ k → all_short k names ≡ true → (i : ℕ) → length (get_or names i beyond) ≤ k
name_most k beyond [] h e i = h
name_most k beyond (x ∷ xs) h e zero = (short_case k x xs _ refl e).0
name_most k beyond (x ∷ xs) h e (suc i) = name_most k beyond xs h (short_case k x xs _ refl e).1 i

pub day_name_most : (day : ℕ) → length (day_name day) ≤ 3
unfolding day_name
day_name_most day = name_most 3 (ascii "-") day_names (omega arith) refl day
