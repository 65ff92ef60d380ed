-- A number's digits are those of its tenth part and one more.
use Prim.Native.Nat.{◌<◌, ◌%◌}
use mathlib.Core.Path.{◌≡◌}
use borrow.Author.Rules.{rules}
use native.Mathlib.Omega.{arith}
use Rattle.text.proofs.DecimalLaws.{decimal_one, decimal_more}
use Rattle.text.proofs.PutsLaws.{puts_then}
use Rattle.text.proofs.Text.+put_decimal.Goals as goal
use Rattle.text.proofs.Text.+put_decimal.Goals.{then-n-ge10, else-n-ge10}

pub returns : goal.returns
returns t c =
    elim c.if-n-ge10.branch [
      | then-n-ge10 w ↦ rw (decimal_more c.args.n w.if-n-ge10.true) (puts_then w.put_decimal.ensures (rw w.self-is at c.put_byte.ensures))
      | else-n-ge10 w ↦
          let small : c.args.n < 10 = search rules in
          let digit : c.args.n % 10 ≡ c.args.n = omega arith in
          rw (decimal_one c.args.n small) (rw (w.self-is, digit) at c.put_byte.ensures)
    ]
