-- -1 - k is a number of the machine.
use Prim.Native.Nat.{ℕ, zero, suc, ◌≤◌}
use native.Mathlib.Omega.{arith}
use lib.IntN.{pos, negsuc, ◌-ℤ◌}
use mir.Syntax.{w64}
use mir.Val.{SFits}
use mir.Facts.{to_z_pos}
use Rattle.yellow_cases.proofs.number_at.Goals as goal

less : (n : ℕ) → n ≤ 9223372036854775807 → SFits w64 (negsuc 0 -ℤ pos n)
less zero h = record { sfits = omega arith }
less (suc n) h = record { sfits = omega arith }

pub overflow_sub-result : goal.overflow_sub-result
overflow_sub-result c = let s = c.k_at-k in rw (to_z_pos w64 {n = s.result} (omega (arith, s.ensures))) (less s.result s.ensures)
