-- Both bytes of the number stand in s, so it is the number that the bytes spell.
use Rattle.numbers.proofs.WordLaws.{word_at, length_words}
use Rattle.numbers.specs.Words.{words}
use lib.ListN.{get_or-eq_default}
use mathlib.Core.Path.{sym}
use native.Mathlib.Omega.{arith}
use Rattle.numbers.proofs.word.Goals as goal

pub returns-then-s-i : goal.returns-then-s-i
returns-then-s-i c = let a = c.args in sym (get_or-eq_default (words a.s.now) 0 {n = a.i} (omega (arith, length_words a.s.now)))

pub returns : goal.returns
returns c = let a = c.args in let e = c.from_be_bytes.ensures in rw e (rw (word_at a.s.now a.i (omega arith)) (omega arith))
