-- The code's test is the definition's: a file has half as many numbers as bytes.
use Rattle.site_diagnosis.specs.Wrong.{missing_text}
use Rattle.text.proofs.PutsLaws.{puts_then}
use Rattle.numbers.specs.Words.{words}
use Rattle.numbers.proofs.WordLaws.{length_words}
use borrow.Author.Tests.{le-ltb, lt-ltb}
use lib.ListN.{length}
use Prim.Native.Nat.{◌+◌, ◌-◌, ◌/◌}
use mathlib.Core.Path.{◌≡◌}
use native.Mathlib.Omega.{arith}
use Rattle.site_diagnosis.proofs.wrong.put_missing.Goals as goal

pub returns-then-total-q : goal.returns-then-total-q
unfolding missing_text
returns-then-total-q c =
    rw (le-ltb c.args.q (length (words c.args.file.now)) (omega (arith, length_words c.args.file.now)))
    (puts_then c.put.ensures
    (puts_then c.put_rows.ensures
    c.put-then-total-q.ensures))

pub returns : goal.returns
unfolding missing_text
returns c =
    let ws = words c.args.file.now in
    let n = length_words c.args.file.now in
    let e : length c.args.file.now / 2 - c.args.q - 1 ≡ length ws - (c.args.q + 1) = omega arith in
    rw (lt-ltb c.args.q (length ws) (omega arith))
    (puts_then (rw e at c.put_number.ensures)
    c.put-2.ensures)
