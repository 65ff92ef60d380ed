-- The loop's invariant: the front of dst that was filled is the front of the numbers from `at` on.
use lib.ListN.{length-drop, length, drop}
use Rattle.numbers.proofs.WordLaws.{words_high}
use native.Mathlib.Numerals.{add-one}
use lib.Seq.{take-suc, take-suc-set, get_or-drop}
use borrow.Author.Rules.{rules}
use native.Mathlib.Omega.{arith}
use Prim.Native.Nat.{◌<◌}
use Rattle.numbers.specs.Words.{words}
use Rattle.numbers.proofs.load.Goals as goal

pub loop-i-preserved : goal.loop-i-preserved
loop-i-preserved c =
    let a = c.args in
    let l : c.loop-i.i < length c.loop-i.dst = search rules in
    let w : c.loop-i.i < length (drop a.at (words a.s.now)) = simp length-drop (omega (arith, words_high a.s.now)) in (
      search rules,
      search rules,
      rw (add-one, take-suc-set c.loop-i.dst c.loop-i.i, take-suc (drop a.at (words a.s.now)) c.loop-i.i 0, get_or-drop)
          (cc),
    )
