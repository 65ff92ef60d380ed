-- The code's tests are the definition's.
use borrow.Author.Tests.{eq-eqb, ne_eqb}
use lib.Ieee.{of_bits}
use Rattle.lane_speeds.specs.Reading.{reading_of}
use Rattle.lane_speeds.proofs.reading.read.Goals as goal

pub returns-then-earlier : goal.returns-then-earlier
unfolding reading_of of_bits
returns-then-earlier c = rw (eq-eqb _ _ c.if-timed-eq0.true, c.if-earlier.true)

pub returns-then-timed-eq0 : goal.returns-then-timed-eq0
unfolding reading_of of_bits
returns-then-timed-eq0 c = rw (eq-eqb _ _ c.if-timed-eq0.true, c.if-earlier.false)

pub returns : goal.returns
unfolding reading_of
returns c = rw (ne_eqb _ _ c.if-timed-eq0.false, c.quotient.ensures.is)
