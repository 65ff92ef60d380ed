-- Each case is the definition's.
use Rattle.lanes.proofs.interval.ends_by.Goals as goal

pub returns-in-Ordinary : goal.returns-in-Ordinary
returns-in-Ordinary c = rw c.in-Ordinary.is c.green_ends.ensures

pub returns-in-Cut : goal.returns-in-Cut
returns-in-Cut c = rw c.in-Cut.is

pub returns-in-Held : goal.returns-in-Held
returns-in-Held c = rw c.in-Held.is

pub returns-in-Now : goal.returns-in-Now
returns-in-Now c = rw c.in-Now.is
