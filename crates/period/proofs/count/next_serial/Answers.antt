-- At the last serial one more is itself.
use native.Mathlib.Omega.{arith}
use borrow.Author.Tests.{eqb-true, eqb-false}
use lib.Dec.{eqb}
use Rattle.loops.proofs.Cases.{by_test}
use Rattle.period.specs.Counting.{next_serial}
use Rattle.period.proofs.count.next_serial.Goals as goal

pub returns : goal.returns
unfolding next_serial
returns c =
    let x = c.args.serial in
    by_test (eqb x 4294967295) (λ e. rw e (omega (arith, eqb-true x 4294967295 e))) (λ e. rw e (omega (arith, eqb-false x 4294967295 e)))
