-- As many bytes as fit are laid over their part of the buffer.
use Prim.Native.Nat.{◌-◌, ◌≤◌, min}
use mathlib.Core.Path.{◌≡◌, refl, ap, ◌∙◌}
use native.Mathlib.Omega.{arith}
use borrow.Author.Rules.{rules}
use lib.ListN.{length}
use Rattle.text.specs.declared.Text.{Text}
use Rattle.text.proofs.PutLaws.{laid, what_fits}
use Rattle.text.proofs.Text.put.Goals as goal
use Rattle.text.proofs.Text.put.Goals.{then-fits-gt0, else-fits-gt0}

pub returns : goal.returns
returns c =
    let a = c.args in
    let d = a.self.now.out.now in
    let p = a.self.now.end in
    let is : c.min-fits.result ≡ min (length d - p) (length a.bytes.now) = rw c.saturating_sub-room.ensures at c.min-fits.ensures in
    let none = λ (l : c.min-fits.result ≤ 0). what_fits d a.bytes.now p 0 (omega (arith, is, l)) in
    let next = c.saturating_add-self.ensures in
    elim c.if-fits-gt0.branch [
      | then-fits-gt0 w ↦ record {
        same_buffer = rw w.self-is refl;
        put = λ m. record {
          next = rw w.self-is at next;
          bytes = ap (λ (t : Text). t.out.now) w.self-is ∙ laid d a.bytes.now p c.min-fits.result is _ _ (omega arith) w.if-fits-gt0.true (search rules);
        };
      }
      | else-fits-gt0 w ↦ record {
        same_buffer = rw w.self-is refl;
        put = λ m. record {
          next = rw w.self-is at next;
          bytes = ap (λ (t : Text). t.out.now) w.self-is ∙ none w.if-fits-gt0.false;
        };
      }
    ]
