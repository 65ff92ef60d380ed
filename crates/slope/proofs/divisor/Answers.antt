-- The grade's size is 80 at the most, and so each step is a number of the machine.
use Prim.Native.Nat.{◌*◌, ◌+◌, ◌≤◌}
use native.Mathlib.Omega.{arith}
use lib.IntN.{ℤ, pos, nat_abs, ◌+ℤ◌, ◌*ℤ◌}
use mir.Facts.{to_z-of_z}
use Rattle.slope.specs.Slope.{divisor_of}
use Rattle.slope.proofs.SizeLaws.{small_product, small_sum, of_size, read_back}
use Rattle.slope.proofs.SlopeLaws.{grade_size}
use Rattle.slope.proofs.divisor.Goals as goal

abbrev factor : ℤ
factor = pos 981

module _ (k s : ℤ) (hk : nat_abs k ≤ 981) (hs : nat_abs s ≤ 80) where
  product : nat_abs (k *ℤ s) ≤ 981 * 80
  product = small_product k s 981 80 hk hs

  sum : nat_abs (pos 305000 +ℤ k *ℤ s) ≤ 305000 + 981 * 80
  sum = small_sum (pos 305000) (k *ℤ s) 305000 (981 * 80) (omega arith) product

  whole : nat_abs (pos 9 *ℤ (pos 305000 +ℤ k *ℤ s)) ≤ 9 * (305000 + 981 * 80)
  whole = small_product (pos 9) (pos 305000 +ℤ k *ℤ s) 9 (305000 + 981 * 80) (omega arith) sum

pub overflow_mul-result : goal.overflow_mul-result
overflow_mul-result c =
    let s = c.args.grade in
    let h = grade_size s c.requires in
    rw (to_z-of_z c.ranges.grade) (of_size _ (omega (arith, product factor s (omega arith) h)))

pub overflow_add-result : goal.overflow_add-result
overflow_add-result c =
    let s = c.args.grade in
    let h = grade_size s c.requires in
    rw (to_z-of_z c.ranges.grade, read_back (factor *ℤ s) (omega (arith, product factor s (omega arith) h)))
    (of_size _ (omega (arith, sum factor s (omega arith) h)))

pub overflow_mul-result-2 : goal.overflow_mul-result-2
overflow_mul-result-2 c =
    let s = c.args.grade in
    let h = grade_size s c.requires in
    rw (
      to_z-of_z c.ranges.grade,
      read_back (factor *ℤ s) (omega (arith, product factor s (omega arith) h)),
      read_back (pos 305000 +ℤ factor *ℤ s) (omega (arith, sum factor s (omega arith) h)),
    )
    (of_size _ (omega (arith, whole factor s (omega arith) h)))

pub returns : goal.returns
unfolding divisor_of
returns c =
    let s = c.args.grade in
    let h = grade_size s c.requires in
    rw (
      to_z-of_z c.ranges.grade,
      read_back (factor *ℤ s) (omega (arith, product factor s (omega arith) h)),
      read_back (pos 305000 +ℤ factor *ℤ s) (omega (arith, sum factor s (omega arith) h)),
    )
    (read_back _ (omega (arith, whole factor s (omega arith) h)))
