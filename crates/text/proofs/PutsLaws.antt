-- Putting one text and then another puts both, one behind the other.
use Prim.Native.Nat.{ℕ, ◌<◌, ◌≤◌, min}
use mathlib.Core.Path.{◌≡◌, refl, ap, ◌∙◌}
use mathlib.Core.List.{List, [], ◌++◌}
use native.Mathlib.Omega.{arith}
use lib.ListN.{length, drop}
use lib.Seq.{length-sets}
use Rattle.text.specs.Put.{farthest}
use Rattle.text.specs.declared.Text.{Text}
use Rattle.text.specs.Puts.{InReach, Puts}
use Rattle.text.proofs.PutLaws.{put_nothing, put_then, put_as, put_within, put_front, put_whole}

pub puts_nothing : {t : Text} → Puts t [] t
puts_nothing = record { same_buffer = refl; put = λ m. put_nothing _ _ m.end_most }

pub puts_as : {t t' : Text} {a b : List ℕ} → a ≡ b → Puts t a t' → Puts t b t'
puts_as e f = record { same_buffer = f.same_buffer; put = λ m. put_as e (f.put m) }

-- The text is then still one of the machine.
pub still : {t t' : Text} {a : List ℕ} → Puts t a t' → InReach t → InReach t'
still {t} {a = a} f m = record {
  short = omega (arith, m.short, ap length (f.put m).bytes, length-sets t.out.now t.end a);
  end_most = put_within (f.put m);
}

pub puts_then : {t t' t'' : Text} {a b : List ℕ} → Puts t a t' → Puts t' b t'' → Puts t (a ++ b) t''
puts_then f g = record {
  same_buffer = g.same_buffer ∙ f.same_buffer;
  put = λ m. put_then m.short (f.put m) (λ _. g.put (still f m));
}

-- A loop that puts a text part by part: it began at `start`, and whatever puts what is left puts the whole.
abbrev pub Left : Text → Text → List ℕ → List ℕ → Type 0
Left start now left whole = (t : Text) → Puts now left t → Puts start whole t

pub left_at_start : {t : Text} {whole : List ℕ} → Left t t whole whole
left_at_start t f = f

pub left_turn : {start now next : Text} {part before after whole : List ℕ} → Left start now before whole → Puts now part next → before ≡ part ++ after
    → Left start next after whole
left_turn l f e t g = l t (rw e (puts_then f g))

pub left_end : {start now : Text} {left whole : List ℕ} → Left start now left whole → left ≡ [] → Puts start whole now
left_end {now = now} l e = l now (rw e puts_nothing)

-- A text that is put where there was none is measured,
pub puts_measured : {t t' : Text} {bytes : List ℕ} → length t.out.now < farthest → t.end ≡ 0 → Puts t bytes t' → t'.end ≡ min (length bytes) farthest
puts_measured {t} {t'} {bytes} l z f = omega (arith, z, (f.put (record { short = l; end_most = omega (arith, z) })).next)

-- and stands at the buffer's front, if it fits, with the rest as it was.
pub puts_front : {t t' : Text} {d bytes : List ℕ} → length d < farthest → t.out.now ≡ d → t.end ≡ 0 → length bytes ≤ length d → Puts t bytes t'
    → (t'.end ≡ length bytes) × (t'.out.now ≡ bytes ++ drop (length bytes) d)
puts_front {t} {t'} {d} {bytes} l e z h f =
    put_front l h (rw (e, z) at (f.put (record { short = omega (arith, l, ap length e); end_most = omega (arith, z) })))

-- One that is as long as the buffer is all that stands there.
pub puts_whole : {t t' : Text} {d bytes : List ℕ} → length d < farthest → t.out.now ≡ d → t.end ≡ 0 → length d ≡ length bytes → Puts t bytes t' → t'.out.now ≡ bytes
puts_whole {t} {t'} {d} {bytes} l e z same f =
    put_whole l same (rw (e, z) at (f.put (record { short = omega (arith, l, ap length e); end_most = omega (arith, z) })))
