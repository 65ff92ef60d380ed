-- The code's test is the definition's.
use borrow.Author.Tests.{eq-eqb, ne_eqb}
use Rattle.lane_speeds.specs.Speeds.{after_vehicle}
use Rattle.lane_speeds.proofs.after_vehicle.Goals as goal

pub returns-then-time-eq0 : goal.returns-then-time-eq0
unfolding after_vehicle
returns-then-time-eq0 c = rw (eq-eqb _ _ c.if-time-eq0.true)

pub returns : goal.returns
unfolding after_vehicle
returns c = rw (ne_eqb _ _ c.if-time-eq0.false, c.slower.ensures, c.quotient-x.ensures.is)
