-- The code's tests are the definition's. What is left is less than b, which has 16 bits, and so small enough to be doubled; where any is
-- left, b is 2 or more and the quotient so small that one more fits.
use Rattle.release.specs.Cycle.{to_nearest}
use Rattle.loops.proofs.Rules.{tests}
use Prim.Native.Nat.{◌/◌, ◌%◌, ◌≤◌, ◌<◌}
use native.Mathlib.Omega.{arith}
use native.Mathlib.Nat.{mod-lt, div-add-mod', mul-le-mul_left}
use Rattle.release.proofs.cycle.to_nearest.Goals as goal

pub returns-then-b-eq0 : goal.returns-then-b-eq0
unfolding to_nearest
returns-then-b-eq0 c = search tests

pub overflow_mul-left : goal.overflow_mul-left
overflow_mul-left c =
    let a = c.args in
    let less : a.a % a.b < a.b = mod-lt a.a (omega arith) in
    omega (arith, less)

pub returns-then-left-b : goal.returns-then-left-b
unfolding to_nearest
returns-then-left-b c = search tests

pub overflow_add-result : goal.overflow_add-result
overflow_add-result c =
    let a = c.args in
    let less : a.a % a.b < a.b = mod-lt a.a (omega arith) in
    let two : 2 ≤ a.b = omega (arith, less) in
    omega (arith, div-add-mod' a.a a.b, mul-le-mul_left (a.a / a.b) two)

pub returns : goal.returns
unfolding to_nearest
returns c = search tests
