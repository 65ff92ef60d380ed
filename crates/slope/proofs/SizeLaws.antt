-- The size of a product and of a sum, and that a number of such a size is one of the machine's.
use Prim.Native.Nat.{ℕ, zero, suc, ◌+◌, ◌*◌, ◌^◌, ◌≤◌}
use mathlib.Core.Path.{◌≡◌, refl}
use native.Mathlib.Omega.{arith}
use native.Mathlib.Nat.{mul-le-mul}
use borrow.Author.Tests.{ltb-true}
use lib.Dec.{ltb}
use lib.IntN.{ℤ, pos, negsuc, neg_ℤ, nat_abs, sub_ℕ, ◌+ℤ◌, ◌*ℤ◌}
use mir.Syntax.{w64}
use mir.Val.{SFits, to_z, of_z}
use mir.Facts.{to_z-of_z}
use Rattle.loops.proofs.Cases.{by_test}

size_negative : (n : ℕ) → nat_abs (neg_ℤ (pos n)) ≡ n
size_negative zero = refl
size_negative (suc n) = refl

pub size_product : (a b : ℤ) → nat_abs (a *ℤ b) ≡ nat_abs a * nat_abs b
size_product (pos a) (pos b) = refl
size_product (pos a) (negsuc b) = size_negative (a * suc b)
size_product (negsuc a) (pos b) = size_negative (suc a * b)
size_product (negsuc a) (negsuc b) = refl

size_difference : (a b : ℕ) → nat_abs (sub_ℕ a b) ≤ a + b
size_difference a b = by_test (ltb a b) (λ e. let l = ltb-true a b e in rw e (omega arith)) (λ e. rw e (omega arith))

pub size_sum : (a b : ℤ) → nat_abs (a +ℤ b) ≤ nat_abs a + nat_abs b
size_sum (pos a) (pos b) = omega arith
size_sum (pos a) (negsuc b) = size_difference a (suc b)
size_sum (negsuc a) (pos b) = omega (arith, size_difference b (suc a))
size_sum (negsuc a) (negsuc b) = omega arith

-- The same of two numbers whose sizes are known.
pub small_product : (a b : ℤ) (m n : ℕ) → nat_abs a ≤ m → nat_abs b ≤ n → nat_abs (a *ℤ b) ≤ m * n
small_product a b m n h l = rw (size_product a b) (mul-le-mul h l)

pub small_sum : (a b : ℤ) (m n : ℕ) → nat_abs a ≤ m → nat_abs b ≤ n → nat_abs (a +ℤ b) ≤ m + n
small_sum a b m n h l = omega (arith, size_sum a b)

-- A number of such a size is one of the machine's, and is read back as it is.
pub of_size : (z : ℤ) → nat_abs z ≤ 2 ^ 32 → SFits w64 z
of_size (pos n) h = record { sfits = omega arith }
of_size (negsuc n) h = record { sfits = omega arith }

pub read_back : (z : ℤ) → nat_abs z ≤ 2 ^ 32 → to_z w64 (of_z w64 z) ≡ z
read_back z h = to_z-of_z (of_size z h)
