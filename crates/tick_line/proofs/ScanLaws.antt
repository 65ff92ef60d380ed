-- A line may come in parts: scanning one and then the next scans both.
use Prim.Native.Nat.{ℕ}
use mathlib.Core.Path.{◌≡◌, refl, ap}
use mathlib.Core.Bool.{Bool, true, false, cond}
use mathlib.Core.List.{List, [], ◌∷◌, ◌++◌}
use Rattle.tick_line.specs.declared.scan.Scan.{Scan}
use Rattle.tick_line.specs.Scan.{with_other, with_byte, after_byte, scanned}

pub behind_return : (s : Scan) (b : ℕ) → s.returned ≡ true → after_byte s b ≡ with_other s
unfolding after_byte
behind_return s b h = ap (λ (t : Bool). cond t (with_other s) (with_byte s b)) h

pub behind_other : (s : Scan) (b : ℕ) → s.returned ≡ false → after_byte s b ≡ with_byte s b
unfolding after_byte
behind_other s b h = ap (λ (t : Bool). cond t (with_other s) (with_byte s b)) h

pub scanned_append : (a b : List ℕ) (s : Scan) → scanned (a ++ b) s ≡ scanned b (scanned a s)
scanned_append [] b s = refl
scanned_append (x ∷ a) b s = scanned_append a b (after_byte s x)
