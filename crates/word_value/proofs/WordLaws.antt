-- What is kept of a word is read from what is kept of its digits, by its first byte.
use Prim.Native.Nat.{ℕ, zero, suc, ◌-◌, ◌≤◌, ◌<◌}
use mathlib.Core.Path.{◌≡◌, refl, ap}
use mathlib.Core.Bool.{Bool, true, false}
use mathlib.Core.List.{List, [], ◌∷◌}
use native.Mathlib.Omega.{arith}
use borrow.Author.Tests.{lt-ltb, le-ltb, eq-eqb, ne_eqb}
use Rattle.std.specs.Prelude.{IfSome, Ok, Err}
use lib.ListN.{length, get_or, take, drop}
use lib.Seq.{take_all}
use Rattle.loops.proofs.Cases.{by_test}
use Rattle.word_value.specs.declared.signed.BadWord.TheVariants.{Empty, TooLong}
use Rattle.word_value.specs.Digits.{is_number, value_of, kept, digits_read}
use Rattle.word_value.specs.Signed.{of_size, signed_read, word_read, kept_number, kept_word, of_digits}

-- The bytes behind the first are all that are left of the word.
pub rest : (word : List ℕ) → take (length word - 1) (drop 1 word) ≡ drop 1 word
rest [] = refl
rest (b ∷ word) = take_all (suc (length word) - 1) word (omega arith)

pub value_kept : (word : List ℕ) → IfSome (digits_read word) (λ size. size ≤ 4294967296)
unfolding digits_read
value_kept word = by_test (is_number word) (λ e. rw e (omega arith)) (λ e. rw e tt)

kept_size : (negative : Bool) (n : ℕ) → of_size negative (kept n) ≡ kept_number (of_size negative n)
kept_size false n = refl
kept_size true zero = refl
kept_size true (suc n) = refl

pub from_digits : (negative : Bool) (word : List ℕ) → of_digits negative (digits_read word) ≡ kept_word (signed_read negative word)
unfolding digits_read signed_read
from_digits negative word =
    by_test (is_number word) (λ e. rw e (ap Ok (kept_size negative (value_of word)))) (λ e. rw e refl)

-- A word of no byte, of too many, behind a minus sign, behind a plus sign, and behind no sign.
pub of_none : (word : List ℕ) → length word ≡ 0 → word_read word ≡ Err Empty
unfolding word_read
of_none [] h = refl
of_none (b ∷ word) h = absurd (omega (arith, h))

pub of_many : (word : List ℕ) → 4096 < length word → word_read word ≡ Err TooLong
unfolding word_read
of_many [] h = absurd (omega (arith, h))
of_many (b ∷ word) h = rw (lt-ltb 4096 (length (b ∷ word)) h)

pub behind_minus : (word : List ℕ) → length word ≤ 4096 → get_or word 0 0 ≡ 45 → word_read word ≡ signed_read true (drop 1 word)
unfolding word_read
behind_minus [] h e = absurd (omega (arith, e))
behind_minus (b ∷ word) h e = rw (le-ltb 4096 (length (b ∷ word)) h, eq-eqb b 45 e)

pub behind_plus : (word : List ℕ) → length word ≤ 4096 → get_or word 0 0 ≡ 43 → word_read word ≡ signed_read false (drop 1 word)
unfolding word_read
behind_plus [] h e = absurd (omega (arith, e))
behind_plus (b ∷ word) h e = rw (le-ltb 4096 (length (b ∷ word)) h, e)

pub behind_none : (word : List ℕ) → (length word ≡ 0 → ⊥) → length word ≤ 4096 → (get_or word 0 0 ≡ 45 → ⊥) → (get_or word 0 0 ≡ 43 → ⊥) → word_read word ≡ signed_read false word
unfolding word_read
behind_none [] some h m p = absurd (some refl)
behind_none (b ∷ word) some h m p = rw (le-ltb 4096 (length (b ∷ word)) h, ne_eqb b 45 m, ne_eqb b 43 p)
