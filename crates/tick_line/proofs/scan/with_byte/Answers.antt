-- The code's tests are the definition's.
use borrow.Author.Tests.{eq-eqb, ne_eqb, lt-ltb, le-ltb, le-leb, lt-leb}
use Rattle.tick_line.specs.Scan.{with_byte}
use Rattle.tick_line.proofs.scan.with_byte.Goals as goal

pub returns-then-b-eq32 : goal.returns-then-b-eq32
unfolding with_byte
returns-then-b-eq32 c = rw (eq-eqb _ _ c.if-b-eq32.true) c.with_blank.ensures

pub returns-then-b-eq13 : goal.returns-then-b-eq13
unfolding with_byte
returns-then-b-eq13 c = rw (ne_eqb _ _ c.if-b-eq32.false, eq-eqb _ _ c.if-b-eq13.true) c.with_return.ensures

pub returns-then-b-lt48 : goal.returns-then-b-lt48
unfolding with_byte
returns-then-b-lt48 c = rw (ne_eqb _ _ c.if-b-eq32.false, ne_eqb _ _ c.if-b-eq13.false, lt-ltb _ _ c.if-b-lt48.true) c.with_other.ensures

pub returns-then-b-gt57 : goal.returns-then-b-gt57
unfolding with_byte
returns-then-b-gt57 c = rw (ne_eqb _ _ c.if-b-eq32.false, ne_eqb _ _ c.if-b-eq13.false, le-ltb _ _ c.if-b-lt48.false, lt-leb _ _ c.if-b-gt57.true) c.with_other-then-b-gt57.ensures

pub returns : goal.returns
unfolding with_byte
returns c = rw (ne_eqb _ _ c.if-b-eq32.false, ne_eqb _ _ c.if-b-eq13.false, le-ltb _ _ c.if-b-lt48.false, le-leb _ _ c.if-b-gt57.false) c.with_digit.ensures
