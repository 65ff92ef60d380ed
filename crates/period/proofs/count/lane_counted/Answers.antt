-- The code's test is the definition's.
use Rattle.period.specs.Counting.{lane_counted}
use borrow.Author.Tests.{eq-eqb, ne_eqb}
use native.Mathlib.Omega.{arith}
use Rattle.period.proofs.RangeLaws.{LaneRoom, lane_room}
use Rattle.period.proofs.count.lane_counted.Goals as goal
use Rattle.period.proofs.count.lane_counted.Goals.{Start}

room : (s : Start) → LaneRoom s.args.c s.args.s
room s = lane_room s.args.c s.args.s s.requires.0 s.requires.1

pub returns-then-s-ne1 : goal.returns-then-s-ne1
unfolding lane_counted
returns-then-s-ne1 c = rw (ne_eqb _ _ c.if-s-ne1.true)

pub overflow_add-result : goal.overflow_add-result
overflow_add-result c = let r = room (goal.at.overflow_add-result c).Start in omega arith

pub overflow_add-result-2 : goal.overflow_add-result-2
overflow_add-result-2 c = let r = room (goal.at.overflow_add-result-2 c).Start in omega arith

pub overflow_add-result-3 : goal.overflow_add-result-3
overflow_add-result-3 c = let r = room (goal.at.overflow_add-result-3 c).Start in omega arith

pub overflow_add-result-4 : goal.overflow_add-result-4
overflow_add-result-4 c = let r = room (goal.at.overflow_add-result-4 c).Start in omega (arith, rw c.travel_time-time.ensures at c.timed_of.ensures)

pub overflow_add-result-5 : goal.overflow_add-result-5
overflow_add-result-5 c = let r = room (goal.at.overflow_add-result-5 c).Start in omega (arith, c.travel_time-time.ensures)

pub returns : goal.returns
unfolding lane_counted
returns c = rw (eq-eqb _ _ c.if-s-ne1.false, c.timed_of.ensures, c.travel_time-time.ensures)
