-- What is wanted, and the cycle of its wish.
use Rattle.tick.specs.Tick.{decided_of}
use Rattle.tick.proofs.TickLaws.{fine, cycle_fits}
use Rattle.site.specs.Named.{shape_of}
use Rattle.wanted.specs.Decision.{decision_of}
use Rattle.wanted.proofs.ClockLaws.{tenth_good}
use Rattle.wanted.proofs.RateLaws.{wish_good}
use Rattle.tick.proofs.decision_of.Goals as goal

pub wanted_now-decision-requires : goal.wanted_now-decision-requires
wanted_now-decision-requires c =
    let i = c.args.input in
    tenth_good i.clock (fine (shape_of c.args.site) i c.requires.1).clock

pub cycle_of-cycle-requires : goal.cycle_of-cycle-requires
cycle_of-cycle-requires c =
    let a = c.args in
    let i = a.input in
    rw (c.timings_of-t.ensures, c.wanted_now-decision.ensures)
    (cycle_fits a.site (decision_of a.site i.clock i.manual i.centre a.counted).wish c.requires.0 (wish_good a.site c.requires.0 i.clock i.manual i.centre a.counted (fine (shape_of a.site) i c.requires.1).commands))

pub returns : goal.returns
unfolding decided_of
returns c = rw (c.cycle_of-cycle.ensures, c.timings_of-t.ensures, c.wanted_now-decision.ensures)
