-- A word of digits, and its value.
use Rattle.std.specs.Prelude.{ℕ, ◌+◌, ◌*◌, ◌-◌, min, Bool, true, false, cond, not, ◌&&◌, List, [], ◌∷◌, leb, Option, Some, None}

-- A word is empty where it has no byte.
abbrev pub is_empty : List ℕ → Bool
is_empty [] = true
is_empty (b ∷ word) = false

-- A digit is a byte from 48 to 57.
abbrev pub is_digit : ℕ → Bool
is_digit b = leb 48 b && leb b 57

-- Whether each byte of a word is a digit; of an empty one that is so.
abbrev pub digits_alone : List ℕ → Bool
digits_alone [] = true
digits_alone (b ∷ word) = is_digit b && digits_alone word

-- A word is a number where it has digits alone, one at least.
abbrev pub is_number : List ℕ → Bool
is_number word = not (is_empty word) && digits_alone word

-- A value with the digits of a word behind its own.
abbrev pub followed_by : ℕ → List ℕ → ℕ
followed_by value [] = value
followed_by value (b ∷ word) = followed_by (value * 10 + (b - 48)) word

-- A word's value in decimal, however long it is.
unfoldable pub value_of : List ℕ → ℕ
value_of word = followed_by 0 word

-- What is kept of a value: one above 4294967296 counts as that.
abbrev pub kept : ℕ → ℕ
kept value = min value 4294967296

-- A kept value with one more digit.
unfoldable pub grown : ℕ → ℕ → ℕ
grown value digit = kept (value * 10 + digit)

-- What is kept of a word's value, if the word is a number.
unfoldable pub digits_read : List ℕ → Option ℕ
digits_read word = cond (is_number word) (Some (kept (value_of word))) None
