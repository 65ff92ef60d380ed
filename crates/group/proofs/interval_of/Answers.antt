-- What preemption holds stays; else the interval's age, the lanes and the wish that steers.
use Rattle.group.specs.Group.{ordinary_interval, interval_of}
use Rattle.group.proofs.interval_of.Goals as goal

pub returns-then-held : goal.returns-then-held
unfolding interval_of
returns-then-held c = rw (← c.held.ensures, c.if-held.true)

pub returns : goal.returns
unfolding interval_of ordinary_interval
returns c =
    rw (← c.held.ensures, c.if-held.false, c.next.ensures, c.older.ensures, c.steered-steering.ensures, c.all_red-red.ensures)
