-- The code's test is the definition's.
use borrow.Author.Tests.{eq-eqb, ne_eqb}
use Rattle.lane_speeds.specs.Speeds.{last_measured}
use Rattle.lane_speeds.proofs.last_measured.Goals as goal

pub returns-then-timed-eq0 : goal.returns-then-timed-eq0
unfolding last_measured
returns-then-timed-eq0 c = rw (eq-eqb _ _ c.if-timed-eq0.true)

pub returns : goal.returns
unfolding last_measured
returns c = rw (ne_eqb _ _ c.if-timed-eq0.false) c.quotient.ensures.is
