-- The code's tests are the definition's.
use Rattle.lanes.specs.Intervals.{lane_tick}
use borrow.Author.Tests.{eq-eqb, ne_eqb}
use Rattle.lanes.proofs.interval.lane_tick.Goals as goal

pub returns-then-l-eq-GREEN : goal.returns-then-l-eq-GREEN
unfolding lane_tick
returns-then-l-eq-GREEN c = rw (eq-eqb _ _ c.if-l-eq-GREEN.true, ← c.passages_of.ensures, ← c.rise-counter.ensures, ← c.rise-age.ensures) c.green_at.ensures

pub returns-then-l-eq-YELLOW : goal.returns-then-l-eq-YELLOW
unfolding lane_tick
returns-then-l-eq-YELLOW c = rw (ne_eqb _ _ c.if-l-eq-GREEN.false, eq-eqb _ _ c.if-l-eq-YELLOW.true, ← c.rise-counter.ensures, ← c.rise-age.ensures) c.yellow_at.ensures

pub returns : goal.returns
unfolding lane_tick
returns c = rw (ne_eqb _ _ c.if-l-eq-GREEN.false, ne_eqb _ _ c.if-l-eq-YELLOW.false, c.rise-counter.ensures, c.rise-age.ensures)
