-- What kind of byte a byte is, and the words of a line that begins with it.
use Prim.Native.Nat.{ℕ, ◌-◌}
use mathlib.Core.Path.{◌≡◌, refl, ◌∙◌}
use mathlib.Core.Bool.{Bool, true, false}
use mathlib.Core.List.{List, [], ◌∷◌}
use native.Mathlib.Omega.{arith}
use borrow.Author.Tests.{ltb-true, ltb-false, eqb-true, le-leb, lt-leb, ne_eqb}
use lib.Dec.{ltb, leb, eqb}
use Rattle.tick_line.specs.declared.scan.Scan.{Scan}
use Rattle.tick_line.specs.Scan.{with_digit, with_blank, with_return, with_other, with_byte, after_byte}
use Rattle.word_value.specs.Digits.{is_digit}
use Rattle.tick_line.specs.Words.{without_return, on_first, words_of, without_last_empty}
use Rattle.tick_line.proofs.ScanLaws.{behind_other}

-- A byte is a blank, a carriage return, a digit or another; what it does to a scan whose last byte was no carriage return.
pub data Kind (b : ℕ) : Type 0 where
  blank : eqb b 32 ≡ true → eqb b 13 ≡ false → ((s : Scan) → s.returned ≡ false → after_byte s b ≡ with_blank s) → Kind b
  return : eqb b 32 ≡ false → eqb b 13 ≡ true → is_digit b ≡ false → ((s : Scan) → s.returned ≡ false → after_byte s b ≡ with_return s) → Kind b
  digit : eqb b 32 ≡ false → eqb b 13 ≡ false → is_digit b ≡ true → ((s : Scan) → s.returned ≡ false → after_byte s b ≡ with_digit s (b - 48)) → Kind b
  other : eqb b 32 ≡ false → eqb b 13 ≡ false → is_digit b ≡ false → ((s : Scan) → s.returned ≡ false → after_byte s b ≡ with_other s) → Kind b

kind_by : (b : ℕ) (t u v w : Bool) → eqb b 32 ≡ t → eqb b 13 ≡ u → ltb b 48 ≡ v → leb b 57 ≡ w → Kind b
unfolding with_byte
kind_by b true u v w e f g h = blank e (ne_eqb b 13 (λ q. omega (arith, eqb-true b 32 e))) (λ s r. behind_other s b r ∙ rw e)
kind_by b false true v w e f g h = return e f (rw (lt-leb 48 b (omega (arith, eqb-true b 13 f)))) (λ s r. behind_other s b r ∙ rw (e, f))
kind_by b false false true w e f g h = other e f (rw (lt-leb 48 b (ltb-true b 48 g))) (λ s r. behind_other s b r ∙ rw (e, f, g))
kind_by b false false false true e f g h = digit e f (rw (le-leb 48 b (ltb-false b 48 g), h)) (λ s r. behind_other s b r ∙ rw (e, f, g, h))
kind_by b false false false false e f g h = other e f (rw (le-leb 48 b (ltb-false b 48 g), h)) (λ s r. behind_other s b r ∙ rw (e, f, g, h))

pub kind : (b : ℕ) → Kind b
kind b = kind_by b _ _ _ _ refl refl refl refl

-- The words of a line that begins with this byte.
kept_return : (b : ℕ) (rest : List ℕ) → eqb b 13 ≡ false → without_return (b ∷ rest) ≡ b ∷ without_return rest
kept_return b [] h = rw h
kept_return b (c ∷ rest) h = refl

abbrev pub first : List (List ℕ) → List ℕ
first [] = []
first (word ∷ words) = word

abbrev pub others : List (List ℕ) → List (List ℕ)
others [] = []
others (word ∷ words) = words

on_first_lem : (b : ℕ) (words : List (List ℕ)) → on_first b words ≡ (b ∷ first words) ∷ others words
on_first_lem b [] = refl
on_first_lem b (word ∷ words) = refl

-- The first word's bytes in a rest of a line, and the words behind it.
abbrev pub first_in : List ℕ → List ℕ
first_in rest = first (words_of (without_return rest))

abbrev pub others_in : List ℕ → List (List ℕ)
others_in rest = without_last_empty (others (words_of (without_return rest)))

pub words_blank : (b : ℕ) (rest : List ℕ) → eqb b 32 ≡ true → eqb b 13 ≡ false → words_of (without_return (b ∷ rest)) ≡ [] ∷ words_of (without_return rest)
words_blank b rest e f = rw (kept_return b rest f, e)

pub words_more : (b : ℕ) (rest : List ℕ) → eqb b 32 ≡ false → eqb b 13 ≡ false
    → words_of (without_return (b ∷ rest)) ≡ (b ∷ first_in rest) ∷ others (words_of (without_return rest))
words_more b rest e f = rw (kept_return b rest f, e) (on_first_lem b (words_of (without_return rest)))

pub words_return : (b c : ℕ) (rest : List ℕ) → eqb b 32 ≡ false
    → words_of (without_return (b ∷ c ∷ rest)) ≡ (b ∷ first_in (c ∷ rest)) ∷ others (words_of (without_return (c ∷ rest)))
words_return b c rest e = rw e (on_first_lem b (words_of (without_return (c ∷ rest))))
