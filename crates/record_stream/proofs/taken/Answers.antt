-- What is left over is no more than there is.
use native.Mathlib.Omega.{arith}
use native.Mathlib.Nat.{div-add-mod'}
use Rattle.record_stream.proofs.taken.Goals as goal

pub returns-then-front : goal.returns-then-front
returns-then-front c = (record { is = rw c.if-front.true; most = omega arith })

pub overflow_sub-result : goal.overflow_sub-result
overflow_sub-result c = let a = c.args in omega (arith, div-add-mod' a.front.count a.size)

pub returns : goal.returns
returns c = (record { is = rw c.if-front.false; most = omega arith })
