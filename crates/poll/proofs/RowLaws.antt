-- The numbers of a run of lanes, each of the same width: how many they are, and what storing them a lane at a time leaves.
use Prim.Native.Nat.{ℕ, zero, suc, ◌+◌, ◌-◌, ◌*◌, ◌≤◌, ◌<◌}
use mathlib.Core.Path.{◌≡◌, refl, ap, sym, ◌∙◌}
use mathlib.Core.List.{List}
use native.Mathlib.Omega.{arith}
use native.Mathlib.Nat.{zero-mul, suc-mul}
use native.Mathlib.Numerals.{add-one}
use lib.ListN.{length, length-append}
use lib.Seq.{sets}
use Rattle.numbers.specs.Words.{bytes}
use Rattle.numbers.proofs.StoreLaws.{bytes_append}
use Rattle.output.proofs.SetsLaws.{sets_append}
use Rattle.poll.specs.Poll.{rows_from}

-- A loop that stores n lanes' rows of so many bytes, one behind the other over o from `at` on, and has come to lane i with d: storing those
-- left leaves what storing all leaves.
pub record RowsLeft (row : ℕ → List ℕ) (size : ℕ) (o : List ℕ) (at n : ℕ) (d : List ℕ) (i : ℕ) : Type 0 where
  pub up_to : i ≤ n
  pub long : length d ≡ length o
  pub left : sets d (at + i * size) (bytes (rows_from row i (n - i))) ≡ sets o at (bytes (rows_from row 0 n))

module _ (row : ℕ → List ℕ) (size : ℕ) (wide : (i : ℕ) → length (bytes (row i)) ≡ size) where
  pub length_rows : (i k : ℕ) → length (bytes (rows_from row i k)) ≡ k * size
  length_rows i zero = sym (zero-mul size)
  length_rows i (suc k) = let h = length_rows (i + 1) k in rw (bytes_append (row i)) (simp (length-append, wide i, suc-mul) (omega arith))

  module _ (o : List ℕ) (at n : ℕ) where
    pub rows_at_start : RowsLeft row size o at n o 0
    rows_at_start =
        let a : at + 0 * size ≡ at = rw zero-mul (omega arith) in
        let b : n - 0 ≡ n = omega arith in
        record { up_to = omega arith; long = refl; left = rw (a, b) }

    module _ (d : List ℕ) (i : ℕ) (l : RowsLeft row size o at n d i) where
      pub rows_turn : (e : List ℕ) → i < n → e ≡ sets d (at + i * size) (bytes (row i)) → length e ≡ length d → RowsLeft row size o at n e (i + 1)
      rows_turn e h stored long =
          let rest = rows_from row (i + 1) (n - (i + 1)) in
          let one_more : n - i ≡ suc (n - (i + 1)) = omega arith in
          let next : at + (i + 1) * size ≡ at + i * size + size = rw (add-one, suc-mul) (omega arith) in
          record {
            up_to = omega arith;
            long = long ∙ l.long;
            left = rw stored
                (sets_append d (at + i * size) (at + (i + 1) * size) (bytes (row i)) (bytes rest) (rw (wide i) next)
                ∙ ap (sets d (at + i * size)) (sym (bytes_append (row i) rest))
                ∙ rw one_more at l.left);
          }

      pub rows_all : n ≤ i → d ≡ sets o at (bytes (rows_from row 0 n))
      rows_all h = let none : n - i ≡ 0 = omega arith in rw none at l.left
