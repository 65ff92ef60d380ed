-- The bytes of a tick's indications: how many there are, that each is a byte, and how they are stored one after the other.
use Prim.Native.Nat.{ℕ, zero, suc, ◌+◌, ◌≤◌, ◌<◌}
use mathlib.Core.Path.{◌≡◌, refl, ap, ◌∙◌}
use mathlib.Core.Bool.{◌||◌}
use mathlib.Core.List.{List, [], ◌∷◌, ◌++◌}
use native.Mathlib.Omega.{arith}
use native.Mathlib.Numerals.{add-one}
use borrow.Author.Tests.{ltb-true}
use lib.Dec.{ltb, eqb}
use lib.ListN.{length, get_or, set, take, length-append}
use lib.Seq.{sets, slice, slice-cons, slice_empty, length-take-le}
use Rattle.loops.proofs.Cases.{by_test}
use Rattle.lanes.specs.Lanes.{lane_of}
use Rattle.group.specs.declared.Group.{Group}
use Rattle.group.specs.declared.indication.Indications.{Indications}
use Rattle.group.specs.Indications.{colour_shown, sign_shown, lane_shown, indications_of}
use Rattle.group.proofs.RangeLaws.{GroupGood}
use Rattle.many_ticks.specs.Many.{shown_bytes}

module _ (v : List ℕ) (n sign : ℕ) (fits : n ≤ length v) where
  -- One lane's byte stored, and then the rest,
  pub lane_laid : (out : List ℕ) (i : ℕ) → i < n
      → sets (set out i (get_or v i 0)) (i + 1) (slice (i + 1) n v ++ (sign ∷ [])) ≡ sets out i (slice i n v ++ (sign ∷ []))
  lane_laid out i h = rw (add-one, slice-cons i n v 0 h fits)

-- and at the end the sign's.
pub sign_laid : (v out : List ℕ) (n sign : ℕ) → sets out n (slice n n v ++ (sign ∷ [])) ≡ set out n sign
sign_laid v out n sign = rw (slice_empty n v)

pub length_shown : (n : ℕ) (shown : Indications) → n ≤ length shown.colours → length (shown_bytes n shown) ≡ n + 1
unfolding shown_bytes
length_shown n shown h = length-append (take n shown.colours) (shown.sign ∷ []) ∙ ap (λ (k : ℕ). k + 1) (length-take-le n shown.colours h)

-- "A colour is a byte 0 to 3."
colour_most : (interval own : ℕ) → own ≤ 3 → colour_shown interval own ≤ 3
unfolding colour_shown
colour_most interval own h =
    by_test (eqb interval 2 || (eqb interval 3 || eqb interval 4)) (λ a. rw a (omega arith))
    (λ a. by_test (eqb interval 5) (λ b. rw (a, b) (omega arith))
    (λ b. by_test (eqb interval 6 || eqb interval 9) (λ c. rw (a, b, c) (omega arith))
    (λ c. by_test (eqb interval 7 || eqb interval 8) (λ d. rw (a, b, c, d) h) (λ d. rw (a, b, c, d) (omega arith)))))

module _ (g : Group) (n priority : ℕ) (good : GroupGood g n priority) where
  lane_most : (i : ℕ) → i < 4 → lane_shown g n i ≤ 3
  unfolding lane_shown
  lane_most i h =
      by_test (ltb i n)
      (λ e. rw e (colour_most g.interval (lane_of g.lanes i).colour (good.lanes.inside i h (ltb-true i n e)).most))
      (λ e. rw e (omega arith))

  pub colours_most : (i : ℕ) → get_or (indications_of g n).colours i 0 ≤ 3
  unfolding indications_of
  colours_most zero = lane_most 0 (omega arith)
  colours_most (suc zero) = lane_most 1 (omega arith)
  colours_most (suc (suc zero)) = lane_most 2 (omega arith)
  colours_most (suc (suc (suc zero))) = lane_most 3 (omega arith)
  colours_most (suc (suc (suc (suc i)))) = omega arith

pub sign_most : (g : Group) (n : ℕ) → (indications_of g n).sign ≤ 1
unfolding indications_of sign_shown
sign_most g n = by_test (ltb g.interval 3) (λ e. rw e (omega arith)) (λ e. rw e (omega arith))

pub four_colours : (g : Group) (n : ℕ) → length (indications_of g n).colours ≡ 4
unfolding indications_of
four_colours g n = refl
