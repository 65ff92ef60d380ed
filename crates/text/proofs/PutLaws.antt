-- Putting one text and then another puts both, one behind the other.
use Prim.Native.Nat.{ℕ, suc, ◌+◌, ◌-◌, ◌≤◌, ◌<◌, min}
use mathlib.Core.Path.{◌≡◌, refl, ap, sym, ◌∙◌, subst}
use mathlib.Core.Bool.{Bool, true, false}
use mathlib.Core.List.{List, [], ◌∷◌, ◌++◌, append-nil}
use native.Mathlib.Omega.{arith}
use borrow.Author.Tests.{leb-true, leb-false}
use lib.Dec.{leb}
use lib.ListN.{length, take, drop, length-append, drop_of_length-le}
use borrow.Rule.Slice.PartMut.{put_mid}
use lib.Seq.{sets, sets-eq, set_out, length-sets, drop-length, take_all}
use Rattle.std.proofs.lemmas.List.{length-take-le, take-append-drop}
use Rattle.std.proofs.lemmas.Slice.{put_mid-paste}
use Rattle.output.proofs.SetsLaws.{sets_append, over_front}
use Rattle.text.specs.Put.{farthest, Put}

pub sets_out : (d : List ℕ) (p : ℕ) (text : List ℕ) → length d ≤ p → sets d p text ≡ d
sets_out d p [] h = refl
sets_out d p (b ∷ text) h = rw (set_out d p b h) (sets_out d (suc p) text (omega arith))

-- As many bytes of a text as fit, laid over their part of the buffer, leave what putting all of it leaves.
module _ (d text : List ℕ) (p fits : ℕ) (is : fits ≡ min (length d - p) (length text)) where
  all : length (take fits text) ≡ fits
  all = length-take-le fits text (omega (arith, is))

  rest_out : (whole : Bool) → leb (length text) fits ≡ whole → sets (sets d p (take fits text)) (p + fits) (drop fits text) ≡ sets d p (take fits text)
  rest_out true e = ap (sets (sets d p (take fits text)) (p + fits)) (drop_of_length-le text {i = fits} (leb-true (length text) fits e))
  rest_out false e =
      let l : length (sets d p (take fits text)) ≡ length d = length-sets d p (take fits text) in
      sets_out (sets d p (take fits text)) (p + fits) (drop fits text) (omega (arith, leb-false (length text) fits e, is, l))

  pub what_fits : sets d p (take fits text) ≡ sets d p text
  what_fits =
      sym (rest_out _ refl)
      ∙ sets_append d p (p + fits) (take fits text) (drop fits text) (omega (arith, all))
      ∙ ap (sets d p) (take-append-drop fits text)

  pub laid : (k : ℕ) (ys : List ℕ) → k ≡ fits → 0 < fits → ys ≡ take fits text → put_mid p k d ys ≡ sets d p text
  laid k ys same some e =
      let within : p + length (take fits text) ≤ length d = omega (arith, all, is) in
      let seen : take fits (take fits text) ≡ take fits text = take_all fits (take fits text) (omega (arith, all)) in
      let there : sets d p (take fits text) ≡ take p d ++ take fits text ++ drop (p + fits) d = sets-eq (take fits text) d p within ∙ rw all refl in
      put_mid-paste p k d ys (take fits text) fits e (sym same) (sym all)
      ∙ rw seen refl
      ∙ sym there
      ∙ what_fits

pub put_nothing : (d : List ℕ) (p : ℕ) → p ≤ farthest → Put d p [] p d
put_nothing d p h = record { next = omega arith; bytes = refl }

pub put_as : {d d' a b : List ℕ} {p r : ℕ} → a ≡ b → Put d p a r d' → Put d p b r d'
put_as {d} {d'} {p = p} {r = r} e f = subst (λ (x : List ℕ). Put d p x r d') e f

module _ {d d' a : List ℕ} {p r : ℕ} (l : length d < farthest) (f : Put d p a r d') where
  fits_or_not : (b : List ℕ) (fits : Bool) → leb (p + length a) farthest ≡ fits → sets (sets d p a) r b ≡ sets d p (a ++ b)
  fits_or_not b true e = sets_append d p r a b (omega (arith, f.next, leb-true (p + length a) farthest e))
  fits_or_not b false e =
      let beyond = leb-false (p + length a) farthest e in
      let ld : length (sets d p a) ≡ length d = length-sets d p a in
      sets_out (sets d p a) r b (omega (arith, f.next))
      ∙ sym (sets_out (sets d p a) (p + length a) b (omega arith))
      ∙ sets_append d p (p + length a) a b refl

  still : length d' < farthest
  still = omega (arith, ap length f.bytes, length-sets d p a)

  pub put_then : {d'' b : List ℕ} {r' : ℕ} → (length d' < farthest → Put d' r b r' d'') → Put d p (a ++ b) r' d''
  put_then {d''} {b} {r'} k =
      let g = k still in
      let la : length (a ++ b) ≡ length a + length b = length-append a b in
      record { next = omega (arith, f.next, g.next); bytes = g.bytes ∙ ap (λ (x : List ℕ). sets x r b) f.bytes ∙ fits_or_not b _ refl }

-- One turn of a loop that puts a text part by part: whatever puts what is left after a part puts what was left before it.
pub put_turn : {out out' part before after : List ℕ} {p p' : ℕ} {Whole : ℕ → List ℕ → Type 0}
    → length out < farthest
    → Put out p part p' out'
    → before ≡ part ++ after
    → ((r : ℕ) (d : List ℕ) → Put out p before r d → Whole r d)
    → (r : ℕ) (d : List ℕ) → Put out' p' after r d → Whole r d
put_turn l f e k r d g = k r d (rw e (put_then l f (λ _. g)))

pub put_within : {d d' text : List ℕ} {p r : ℕ} → Put d p text r d' → r ≤ farthest
put_within f = omega (arith, f.next)

-- A text that fits, put at the front, stands there whole, and the rest is as it was.
pub put_front : {d d' text : List ℕ} {r : ℕ} → length d < farthest → length text ≤ length d → Put d 0 text r d'
    → (r ≡ length text) × (d' ≡ text ++ drop (length text) d)
put_front {d} {d'} {text} {r} l h f = (omega (arith, f.next), f.bytes ∙ over_front text d h)

-- One that is as long as the buffer is all that stands there.
pub put_whole : {d d' text : List ℕ} {r : ℕ} → length d < farthest → length d ≡ length text → Put d 0 text r d' → d' ≡ text
put_whole {d} {d'} {text} l same f = (put_front l (omega arith) f).1 ∙ rw (← same, drop-length d) (append-nil text)
