-- The row that a line's numbers fill, one after the other, is the row of all of them.
use Prim.Native.Nat.{ℕ, zero, suc, ◌+◌, ◌/◌, ◌%◌, ◌^◌, ◌≤◌, ◌<◌}
use mathlib.Core.Path.{◌≡◌, refl, ap, ◌∙◌}
use mathlib.Core.Bool.{false, cond}
use mathlib.Core.List.{List, [], ◌∷◌, ◌++◌}
use native.Mathlib.Omega.{arith}
use native.Mathlib.Numerals.{add-one}
use borrow.Author.Tests.{le-ltb, lt-leb, ne_eqb}
use lib.Dec.{leb, eqb}
use lib.ListN.{set, take, replicate}
use lib.Seq.{sets}
use Rattle.tick_line.specs.Scan.{one_more, most_of, place_of, with_number}
use Rattle.tick_line.specs.Words.{in_row}

pub one_more_lem : (k : ℕ) → k < 2 ^ 63 → one_more k ≡ k + 1
unfolding one_more
one_more_lem k h = omega arith

-- The place in a row of the first number behind so many words.
abbrev pub place_behind : ℕ → ℕ
place_behind words = cond (leb words 3) words (words + 1)

beyond_tenth : (before : ℕ) → 3 < before → before < 2 ^ 63 → (row others : List ℕ) (value : ℕ) → value ≤ most_of (before + 1)
    → sets row (place_behind before) (in_row (before + 1) value ++ others) ≡ sets (with_number row before value) (place_behind (before + 1)) others
unfolding with_number place_of in_row most_of
beyond_tenth before l b row others value h =
    let no4 : eqb (before + 1) 4 ≡ false = ne_eqb (before + 1) 4 (λ q. omega arith) in
    let most : value ≤ 65535 = rw no4 at h in
    let e : value % 65536 ≡ value = omega arith in
    let f : before + 1 + 1 ≡ suc (before + 1) = add-one (before + 1) in
    rw (no4, ne_eqb before 3 (λ q. omega arith), le-ltb before 3 (omega arith), lt-leb before 3 l, lt-leb (before + 1) 3 (omega arith), one_more_lem before b, e, f)

-- A number and then the others stand where all of them stand from its place on.
pub row_step : (before : ℕ) → before < 2 ^ 63 → (row others : List ℕ) (value : ℕ) → value ≤ most_of (before + 1)
    → sets row (place_behind before) (in_row (before + 1) value ++ others) ≡ sets (with_number row before value) (place_behind (before + 1)) others
unfolding with_number place_of in_row most_of one_more
row_step zero b row others value h = let e : value % 65536 ≡ value = omega arith in rw e
row_step (suc zero) b row others value h = let e : value % 65536 ≡ value = omega arith in rw e
row_step (suc (suc zero)) b row others value h = let e : value % 65536 ≡ value = omega arith in rw e
row_step (suc (suc (suc zero))) b row others value h = let e : value / 65536 % 65536 ≡ value / 65536 = omega arith in rw e
row_step (suc (suc (suc (suc k)))) b row others value h =
    beyond_tenth (suc (suc (suc (suc k)))) (omega arith) b row others value h

-- What is stored in a row of zeros from its front on.
none_stored : (p : ℕ) (xs : List ℕ) → sets [] p xs ≡ []
none_stored p [] = refl
none_stored p (x ∷ xs) = none_stored (suc p) xs

sets_behind : (a : ℕ) (l : List ℕ) (p : ℕ) (xs : List ℕ) → sets (a ∷ l) (suc p) xs ≡ a ∷ sets l p xs
sets_behind a l p [] = refl
sets_behind a l p (x ∷ xs) = sets_behind a (set l p x) (suc p) xs

pub over_zeros : (size zeros : ℕ) → size ≤ zeros → (xs : List ℕ) → sets (replicate size 0) 0 xs ≡ take size (xs ++ replicate zeros 0)
over_zeros zero zeros h xs = none_stored 0 xs
over_zeros (suc size) zero h xs = absurd (omega arith)
over_zeros (suc size) (suc zeros) h [] = ap (λ (l : List ℕ). 0 ∷ l) (over_zeros size zeros (omega arith) [])
over_zeros (suc size) (suc zeros) h (x ∷ xs) =
    sets_behind x (replicate size 0) 0 xs ∙ ap (λ (l : List ℕ). x ∷ l) (over_zeros size (suc zeros) (omega arith) xs)
