-- Both bytes of the number stand there, so it is the number that the bytes spell.
use Rattle.numbers.proofs.WordLaws.{word_at}
use mathlib.Core.Path.{sym}
use native.Mathlib.Omega.{arith}
use Prim.Native.Nat.{◌+◌, ◌*◌}
use Rattle.tick_record.proofs.word_at.Goals as goal

pub overflow_cast-high : goal.overflow_cast-high
overflow_cast-high c = omega (arith, c.type_inv.bytes (c.args.i * 2))

pub overflow_cast-low : goal.overflow_cast-low
overflow_cast-low c = omega (arith, c.type_inv.bytes (c.args.i * 2 + 1))

pub overflow_mul-result : goal.overflow_mul-result
overflow_mul-result c = let i = c.args.i in omega (arith, c.type_inv.bytes (i * 2 + 1), c.type_inv.bytes (i * 2))

pub overflow_add-result : goal.overflow_add-result
overflow_add-result c = let i = c.args.i in omega (arith, c.type_inv.bytes (i * 2 + 1), c.type_inv.bytes (i * 2))

pub returns : goal.returns
returns c = let a = c.args in sym (word_at a.bytes.now a.i c.requires)
