-- What a word says as a number that may have a sign: `40`, `+40`, `-80`.
use Rattle.std.specs.Prelude.{ℕ, Bool, true, false, cond, List, [], ◌∷◌, ltb, eqb, ℤ, pos, neg_ℤ, nat_abs, negsuc, length, Option, Some, None, Result, Ok, Err}
use Rattle.word_value.specs.declared.signed.BadWord.{BadWord}
use Rattle.word_value.specs.declared.signed.BadWord.TheVariants.{Empty, TooLong, NoNumber}
use Rattle.word_value.specs.Digits.{is_number, value_of, kept}

-- What a word says: a number, or why it is none.
abbrev pub Word : Type 0
Word = Result ℤ BadWord

-- The number of a size that is below 0 or not.
abbrev pub of_size : Bool → ℕ → ℤ
of_size negative size = cond negative (neg_ℤ (pos size)) (pos size)

-- What stands behind the sign is a number's size.
unfoldable pub signed_read : Bool → List ℕ → Word
signed_read negative word = cond (is_number word) (Ok (of_size negative (value_of word))) (Err NoNumber)

-- The most bytes of a word that is read.
abbrev pub longest_word : ℕ
longest_word = 4096

-- A minus sign is 45, a plus sign 43.
unfoldable pub word_read : List ℕ → Word
word_read [] = Err Empty
word_read (b ∷ word) =
    cond (ltb longest_word (length (b ∷ word)))
    (Err TooLong)
    (cond (eqb b 45)
    (signed_read true word)
    (cond (eqb b 43)
    (signed_read false word)
    (signed_read false (b ∷ word))))

-- What is kept of a number: its sign, and its size up to 4294967296.
abbrev pub kept_number : ℤ → ℤ
kept_number (pos n) = pos (kept n)
kept_number (negsuc n) = neg_ℤ (pos (kept (nat_abs (negsuc n))))

abbrev pub kept_word : Word → Word
kept_word (Ok z) = Ok (kept_number z)
kept_word (Err e) = Err e

-- What a word says, from what is kept of its digits.
abbrev pub of_digits : Bool → Option ℕ → Word
of_digits negative None = Err NoNumber
of_digits negative (Some size) = Ok (of_size negative size)
