-- A number below 0 is a sign and its size, which is one more than what -1 is above it.
use Prim.Native.Nat.{ℕ, suc, ◌-◌, ◌^◌, ◌<◌}
use mathlib.Core.Path.{◌≡◌, refl, sym, ◌∙◌, ap, subst}
use mathlib.Core.Bool.{true}
use native.Mathlib.Omega.{arith}
use borrow.Author.Tests.{le-ltb, ltb-true}
use lib.IntN.{ℤ, pos, negsuc, nat_abs, ◌-ℤ◌}
use lib.Signed.{lt_z}
use mir.Syntax.{w64}
use mir.Val.{SFits, to_z, of_z}
use mir.Facts.{to_z-of_z}
use Rattle.text.proofs.PutsLaws.{puts_then}
use Rattle.text.proofs.Text.put_signed.Goals as goal

-- A number below 0, with what -1 is above it; and any other.
record Negative (z : ℤ) : Type 0 where
  above : ℕ
  is : z ≡ negsuc above
  most : above < 2 ^ 63
  left : to_z w64 (of_z w64 (negsuc 0 -ℤ to_z w64 (of_z w64 z))) ≡ pos above
  fits_left : SFits w64 (negsuc 0 -ℤ to_z w64 (of_z w64 z))

less : (above : ℕ) → negsuc 0 -ℤ negsuc above ≡ pos above
less above = rw (le-ltb (suc above) 1 (omega arith)) (let e : suc above - 1 ≡ above = omega arith in ap pos e)

negative : (z : ℤ) → SFits w64 z → lt_z (to_z w64 (of_z w64 z)) (pos 0) ≡ true → Negative z
negative (pos n) f e =
    let t : lt_z (pos n) (pos 0) ≡ true = sym (ap (λ (z : ℤ). lt_z z (pos 0)) (to_z-of_z f)) ∙ e in
    absurd (omega (arith, ltb-true n 0 t))
negative (negsuc k) f e =
    let s : SFits w64 (pos k) = record { sfits = f.sfits } in
    let l : negsuc 0 -ℤ to_z w64 (of_z w64 (negsuc k)) ≡ pos k = ap (λ (z : ℤ). negsuc 0 -ℤ z) (to_z-of_z f) ∙ less k in
    record {
      above = k;
      is = refl;
      most = f.sfits;
      left = ap (λ (z : ℤ). to_z w64 (of_z w64 z)) l ∙ to_z-of_z s;
      fits_left = subst (SFits w64) (sym l) s;
    }

pub returns-then-n-lt0 : goal.returns-then-n-lt0
returns-then-n-lt0 c =
    let b = negative c.args.n c.ranges.n c.if-n-lt0.true in
    rw b.is (puts_then c.put_byte.ensures (rw (← ap nat_abs b.left) c.put_decimal.ensures))
