-- What `any` over the numbers from 0 answers, where the closure says p of each number.
use Prim.Native.Nat.{ℕ, zero, suc, ◌+◌}
use mathlib.Core.Path.{◌≡◌, refl, ap, ◌∙◌}
use native.Mathlib.Omega.{arith}
use mathlib.Core.Bool.{Bool, ◌||◌}
use denote.Param.Members.{Mut}
use Rattle.std.specs.Fn.{Called}
use Rattle.std.specs.List.{list_any, range_with_len}
use Rattle.std.specs.Iterator.{ChecksAny}
use Rattle.std.specs.declared.ops.Range.{Range}
use Rattle.std.proofs.iter.Yields.{nat_range_steps}
use Rattle.std.proofs.lemmas.Iterator.{YieldsList-from_range}
use Rattle.std.proofs.lemmas.Iterator.Search.{any_from_yields_List}
use Rattle.loops.specs.Any.{any_from}

listed : (p : ℕ → Bool) (i k : ℕ) → list_any p (range_with_len i k) ≡ any_from p i k
listed p i zero = refl
listed p i (suc k) = ap (λ b. p i || b) (listed p (i + 1) k)

pub any_in_range : {F : Type 0} {g : Mut F (ℕ × Unit {0}) Bool} (p : ℕ → Bool) (n : ℕ) {s : Range ℕ} (u : Range ℕ) (f : F) (r : Bool)
    → ChecksAny nat_range_steps g s f r u → s ≡ record { start = 0; end = n } → ((x : ℕ) (b : Bool) (q : F) → Called g f (x, tt) b q → (q ≡ f) × (b ≡ p x))
    → r ≡ any_from p 0 n
any_in_range p n u f r ran e closure = any_from_yields_List p u f r ran (YieldsList-from_range 0 n n e (omega arith)) closure ∙ listed p 0 n
