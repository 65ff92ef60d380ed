-- The code's tests are the definition's; beyond the longest row nothing is stored.
use borrow.Author.Tests.{eq-eqb, ne_eqb}
use Prim.Native.Nat.{◌%◌}
use lib.Seq.{set_out}
use Rattle.tick_line.specs.Scan.{with_number}
use borrow.Author.Rules.{rules}
use Rattle.tick_line.proofs.scan.with_number.Goals as goal

pub returns-then-words-eq-BEFORE_TENTH : goal.returns-then-words-eq-BEFORE_TENTH
unfolding with_number
returns-then-words-eq-BEFORE_TENTH c = rw (eq-eqb _ _ c.if-words-eq-BEFORE_TENTH.true)

pub returns-then-place-lt-LONGEST_ROW : goal.returns-then-place-lt-LONGEST_ROW
unfolding with_number
returns-then-place-lt-LONGEST_ROW c = rw (ne_eqb _ _ c.if-words-eq-BEFORE_TENTH.false, ← c.place_of-place.ensures)

pub returns-else-place-lt-LONGEST_ROW : goal.returns-else-place-lt-LONGEST_ROW
unfolding with_number
returns-else-place-lt-LONGEST_ROW c = rw (ne_eqb _ _ c.if-words-eq-BEFORE_TENTH.false, ← c.place_of-place.ensures, set_out c.args.row c.place_of-place.result (c.args.value % 65536) (search rules))
