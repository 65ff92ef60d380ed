-- What is kept of a number's size decides: a number that is cut was far out of range, and still is.
use Prim.Native.Nat.{ℕ, suc, ◌≤◌, ◌<◌, min}
use mathlib.Core.Path.{◌≡◌, refl, sym, ◌∙◌, ap}
use mathlib.Core.Bool.{Bool, false, ◌&&◌}
use mathlib.Core.List.{List}
use native.Mathlib.Omega.{arith}
use borrow.Author.Tests.{leb-true, leb-false}
use lib.Dec.{leb}
use lib.IntN.{ℤ, pos, negsuc, neg_ℤ, nat_abs}
use Rattle.loops.proofs.Cases.{by_test, both_true}
use Rattle.text.specs.Ascii.{ascii}
use Rattle.std.specs.Prelude.{Ok, Err}
use Rattle.word_value.specs.Signed.{Word, kept_number, kept_word}
use Rattle.slope.specs.Slope.{speed_in, grade_in, yellow_at}
use Rattle.slope.proofs.SlopeLaws.{speed, grade_size}
use Rattle.yellow_sheet.specs.Answer.{answer_to, answer_of}
use Rattle.yellow_sheet.specs.Complaint.{word_line, ranges_of, not_numbers, complaint_of}

kept_same : (z : ℤ) → nat_abs z ≤ 4294967296 → kept_number z ≡ z
kept_same (pos n) h = let e : min n 4294967296 ≡ n = omega arith in ap pos e
kept_same (negsuc n) h = let e : min (suc n) 4294967296 ≡ suc n = omega arith in ap (λ (k : ℕ). neg_ℤ (pos k)) e

kept_large : (z : ℤ) → 4294967296 < nat_abs z → nat_abs (kept_number z) ≡ 4294967296
kept_large (pos n) h = omega arith
kept_large (negsuc n) h = let e : min (suc n) 4294967296 ≡ 4294967296 = omega arith in rw e

speed_out : (z : ℤ) → 80 < nat_abs z → speed_in z ≡ false
speed_out z h = by_test (speed_in z) (λ e. absurd (omega (arith, (speed z e).most))) (λ e. e)

grade_out : (z : ℤ) → 80 < nat_abs z → grade_in z ≡ false
grade_out z h = by_test (grade_in z) (λ e. absurd (omega (arith, grade_size z e))) (λ e. e)

-- A test that no number above 80 passes gives the same of a number and of what is kept of it.
test_kept : (test : ℤ → Bool) → ((z : ℤ) → 80 < nat_abs z → test z ≡ false) → (z : ℤ) → test (kept_number z) ≡ test z
test_kept test out z =
    by_test (leb (nat_abs z) 4294967296)
    (λ e. ap test (kept_same z (leb-true (nat_abs z) 4294967296 e)))
    (λ e.
    let l = leb-false (nat_abs z) 4294967296 e in
    out (kept_number z) (omega (arith, kept_large z l)) ∙ sym (out z (omega (arith, l))))

speed_kept : (z : ℤ) → speed_in (kept_number z) ≡ speed_in z
speed_kept = test_kept speed_in speed_out

grade_kept : (z : ℤ) → grade_in (kept_number z) ≡ grade_in z
grade_kept = test_kept grade_in grade_out

refused_kept : (v s : ℤ) → (speed_in v && grade_in s) ≡ false → answer_to (kept_number v) (kept_number s) ≡ answer_to v s
unfolding answer_to yellow_at
refused_kept v s f = rw (speed_kept v, grade_kept s, f)

to_kept : (v s : ℤ) → answer_to (kept_number v) (kept_number s) ≡ answer_to v s
to_kept v s =
    by_test (speed_in v && grade_in s)
    (λ t.
    let p = both_true (speed_in v) (grade_in s) t in
    let a = speed v p.0 in
    rw (kept_same v (omega (arith, a.most)), kept_same s (omega (arith, grade_size s p.1))))
    (refused_kept v s)

pub answer_kept : (v s : Word) → answer_of (kept_word v) (kept_word s) ≡ answer_of v s
answer_kept (Ok v) (Ok s) = to_kept v s
answer_kept (Ok v) (Err e) = refl
answer_kept (Err e) s = refl

word_kept : (name word : List ℕ) (w : Word) → word_line name word (kept_word w) ≡ word_line name word w
word_kept name word (Ok z) = refl
word_kept name word (Err e) = refl

not_numbers_kept : (speed : List ℕ) (v : Word) (grade : List ℕ) (s : Word) → not_numbers speed (kept_word v) grade (kept_word s) ≡ not_numbers speed v grade s
unfolding not_numbers
not_numbers_kept speed v grade s = rw (word_kept (ascii "speed") speed v, word_kept (ascii "grade") grade s)

ranges_kept : (speed grade : List ℕ) (v s : ℤ) → ranges_of speed (kept_number v) grade (kept_number s) ≡ ranges_of speed v grade s
unfolding ranges_of
ranges_kept speed grade v s = rw (speed_kept v, grade_kept s)

pub complaint_kept : (speed : List ℕ) (v : Word) (grade : List ℕ) (s : Word) → complaint_of speed (kept_word v) grade (kept_word s) ≡ complaint_of speed v grade s
complaint_kept speed (Ok v) grade (Ok s) = ranges_kept speed grade v s
complaint_kept speed (Ok v) grade (Err e) = not_numbers_kept speed (Ok v) grade (Err e)
complaint_kept speed (Err e) grade s = not_numbers_kept speed (Err e) grade s
