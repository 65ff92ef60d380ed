-- The lamps in a tick's line.
use Rattle.std.specs.Prelude.{ℕ, List, [], ◌∷◌, ◌++◌, get_or, take}
use Rattle.text.specs.Ascii.{ascii}
use Rattle.phrases.specs.Phrases.{blank_and_decimal}
use Rattle.group.specs.declared.indication.Indications.{Indications}

-- A number's letter, and `?` where it has none.
unfoldable pub letter_of : List ℕ → ℕ → ℕ
letter_of letters x = get_or letters x 63

-- The n lanes' .. in one word: a letter for each of the first n of four lanes.
abbrev pub word_of : List ℕ → List ℕ → ℕ → List ℕ
word_of letters v n = take n (letter_of letters (get_or v 0 0) ∷ letter_of letters (get_or v 1 0) ∷ letter_of letters (get_or v 2 0) ∷ letter_of letters (get_or v 3 0) ∷ [])

-- The colours as letters `D R Y G`: 0 dark, 1 red, 2 yellow, 3 green. The lower greens as 0 and 1, then the sign.
unfoldable pub lamps_text : Indications → ℕ → List ℕ
lamps_text s n = ascii " " ++ (word_of (ascii "DRYG") s.colours n ++ (ascii " " ++ (word_of (ascii "01") s.lower n ++ blank_and_decimal s.sign)))
