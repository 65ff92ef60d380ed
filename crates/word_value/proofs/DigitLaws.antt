-- A word's digits one at a time: what is kept of its value is kept at each.
use Prim.Native.Nat.{ℕ, ◌+◌, ◌*◌, ◌-◌}
use mathlib.Core.Path.{◌≡◌, refl, sym}
use mathlib.Core.Bool.{Bool, true, false, cond, ◌&&◌}
use mathlib.Core.List.{List, [], ◌∷◌}
use native.Mathlib.Omega.{arith}
use lib.ListN.{length}
use Rattle.std.specs.Prelude.{Option, Some, None}
use Rattle.word_value.specs.Digits.{is_digit, digits_alone, followed_by, value_of, kept, grown, digits_read}

pub grown_kept : (value d : ℕ) → grown (kept value) d ≡ kept (value * 10 + d)
unfolding grown
grown_kept value d = omega arith

-- What is read of these bytes behind digits whose value is kept so.
abbrev pub number_from : ℕ → List ℕ → Option ℕ
number_from value [] = Some value
number_from value (b ∷ word) = cond (is_digit b) (number_from (grown value (b - 48)) word) None

number_from_lem : (x : ℕ) (word : List ℕ) → number_from (kept x) word ≡ cond (digits_alone word) (Some (kept (followed_by x word))) None
number_from_lem x [] = refl
number_from_lem x (b ∷ word) = by_digit (is_digit b) (number_from_lem (x * 10 + (b - 48)) word)
  where
    by_digit : (t : Bool)
        → number_from (kept (x * 10 + (b - 48))) word ≡ cond (digits_alone word) (Some (kept (followed_by (x * 10 + (b - 48)) word))) None
        → cond t (number_from (grown (kept x) (b - 48)) word) None
        ≡ cond (t && digits_alone word) (Some (kept (followed_by (x * 10 + (b - 48)) word))) None
    by_digit true e = rw (grown_kept x (b - 48)) e
    by_digit false e = refl

pub no_bytes : (word : List ℕ) → length word ≡ 0 → None ≡ digits_read word
unfolding digits_read
no_bytes [] h = refl
no_bytes (b ∷ word) h = absurd (omega (arith, h))

pub from_the_first : (word : List ℕ) → (length word ≡ 0 → ⊥) → digits_read word ≡ number_from 0 word
unfolding digits_read value_of
from_the_first [] h = absurd (h refl)
from_the_first (b ∷ word) h = sym (number_from_lem 0 (b ∷ word))
