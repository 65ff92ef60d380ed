-- A quotient rounded up is at most a number where what is divided is at most so many times the divisor.
use Prim.Native.Nat.{ℕ, ◌*◌, ◌≤◌}
use native.Mathlib.Omega.{arith}
use native.Mathlib.Nat.{mul-le-mul}
use borrow.Author.Tests.{le-leb}
use borrow.Author.Rules.{rules}
use Rattle.rounding.specs.Up.{rounded_up}
use Rattle.rounding.proofs.UpLaws.{up_by_product}
use Rattle.release.specs.Cycle.{offset_ticks}
use Rattle.release.proofs.cycle.offset_is_up.Goals as goal

-- Two numbers of 16 bits have a product of 32.
product : (a b : ℕ) → a ≤ 65535 → b ≤ 65535 → a * b ≤ 4294967295
product a b h l = omega (arith, mul-le-mul h l)

pub returns-then-n-eq0 : goal.returns-then-n-eq0
unfolding offset_ticks rounded_up
returns-then-n-eq0 c = rw (c.if-n-eq0.true, le-leb 0 c.args.ticks (omega arith))

pub overflow_mul-result : goal.overflow_mul-result
overflow_mul-result c = let a = c.args in omega (arith, product a.ticks a.n (search rules) (search rules))

pub returns : goal.returns
unfolding offset_ticks
returns c = let a = c.args in up_by_product a.n (omega (arith, c.if-n-eq0.false)) a.cycle a.ticks
