-- The site's shape has its numbers of lanes.
use mathlib.Core.Path.{◌∙◌}
use Rattle.site.specs.Named.{metered_lanes, mainline_lanes, shape_of}
use Rattle.period.proofs.RangeLaws.{good_periods}
use Rattle.state.proofs.StateLaws.{state_good}
use Rattle.tick.specs.Tick.{counted_in}
use Rattle.tick.proofs.TickLaws.{accepted}
use Rattle.many_ticks.proofs.count.Goals as goal

pub after_tick-requires : goal.after_tick-requires
after_tick-requires c =
    let a = c.args in
    let p = accepted a.site a.state a.input c.requires in
    rw c.shape_of-shape.ensures
    (good_periods a.state.periods (metered_lanes a.site) (mainline_lanes a.site) (state_good a.state (shape_of a.site) p.state).periods, p.samples)

pub returns : goal.returns
unfolding counted_in
returns c = c.after_tick.ensures.is ∙ rw c.shape_of-shape.ensures
