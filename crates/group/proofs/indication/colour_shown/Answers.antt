-- Each of the ten numbers, and any other.
use Rattle.group.specs.Indications.{colour_shown}
use Rattle.loops.proofs.Rules.{tests}
use Rattle.group.proofs.indication.colour_shown.Goals as goal

pub returns-in-0 : goal.returns-in-0
unfolding colour_shown
returns-in-0 c = simp c.in-0.is

pub returns-in-1 : goal.returns-in-1
unfolding colour_shown
returns-in-1 c = simp c.in-1.is

pub returns-in-2 : goal.returns-in-2
unfolding colour_shown
returns-in-2 c = simp c.in-2.is

pub returns-in-3 : goal.returns-in-3
unfolding colour_shown
returns-in-3 c = simp c.in-3.is

pub returns-in-4 : goal.returns-in-4
unfolding colour_shown
returns-in-4 c = simp c.in-4.is

pub returns-in-5 : goal.returns-in-5
unfolding colour_shown
returns-in-5 c = simp c.in-5.is

pub returns-in-6 : goal.returns-in-6
unfolding colour_shown
returns-in-6 c = simp c.in-6.is

pub returns-in-7 : goal.returns-in-7
unfolding colour_shown
returns-in-7 c = simp c.in-7.is

pub returns-in-8 : goal.returns-in-8
unfolding colour_shown
returns-in-8 c = simp c.in-8.is

pub returns-in-9 : goal.returns-in-9
unfolding colour_shown
returns-in-9 c = simp c.in-9.is

pub returns-in_default : goal.returns-in_default
unfolding colour_shown
returns-in_default c = search tests
