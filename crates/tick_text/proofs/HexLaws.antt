-- A byte's two digits, and those of the bytes behind it.
use Prim.Native.Nat.{ℕ, ◌+◌, ◌/◌, ◌%◌, ◌≤◌, ◌<◌}
use mathlib.Core.Path.{◌≡◌}
use mathlib.Core.List.{List, [], ◌∷◌, ◌++◌}
use native.Mathlib.Numerals.{add-one}
use lib.ListN.{length, get_or, drop, drop_of_length-le}
use lib.Seq.{drop-cons}
use Rattle.tick_text.specs.Lines.{hex_digit, hex_text}

pub hex_turn : (bytes : List ℕ) (i a b : ℕ) → i < length bytes → a ≡ hex_digit (get_or bytes i 0 / 16) → b ≡ hex_digit (get_or bytes i 0 % 16)
    → hex_text (drop i bytes) ≡ (a ∷ b ∷ []) ++ hex_text (drop (i + 1) bytes)
hex_turn bytes i a b h p q = rw (add-one, drop-cons bytes i 0, p, q)

pub hex_end : (bytes : List ℕ) (i : ℕ) → length bytes ≤ i → hex_text (drop i bytes) ≡ []
hex_end bytes i h = rw (drop_of_length-le bytes {i = i} h)
