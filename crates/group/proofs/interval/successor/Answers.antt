-- Each of the ten numbers, and any other.
use Rattle.group.specs.Intervals.{successor_of}
use Rattle.loops.proofs.Rules.{tests}
use Rattle.group.proofs.interval.successor.Goals as goal

pub returns-in-0 : goal.returns-in-0
unfolding successor_of
returns-in-0 c = simp c.in-0.is

pub returns-in-1 : goal.returns-in-1
unfolding successor_of
returns-in-1 c = simp (c.in-1.is, c.from_dark.ensures)

pub returns-in-2 : goal.returns-in-2
unfolding successor_of
returns-in-2 c = simp (c.in-2.is, c.from_green.ensures, c.minutes.ensures)

pub returns-in-3 : goal.returns-in-3
unfolding successor_of
returns-in-3 c = simp c.in-3.is

pub returns-in-4 : goal.returns-in-4
unfolding successor_of
returns-in-4 c = simp c.in-4.is

pub returns-in-5 : goal.returns-in-5
unfolding successor_of
returns-in-5 c = simp c.in-5.is

pub returns-in-6 : goal.returns-in-6
unfolding successor_of
returns-in-6 c = simp c.in-6.is

pub returns-in-7 : goal.returns-in-7
unfolding successor_of
returns-in-7 c = simp (c.in-7.is, c.from_metering.ensures)

pub returns-then-red : goal.returns-then-red
unfolding successor_of
returns-then-red c = simp (c.in-8.is, c.if-red.true)

pub returns-else-red : goal.returns-else-red
unfolding successor_of
returns-else-red c = simp (c.in-8.is, c.if-red.false)

pub returns-in-9 : goal.returns-in-9
unfolding successor_of
returns-in-9 c = simp c.in-9.is

pub returns-in_default : goal.returns-in_default
unfolding successor_of
returns-in_default c = search tests
