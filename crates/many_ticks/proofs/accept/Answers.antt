-- Counted, decided and finished: the single tick by its parts.
use mathlib.Core.Path.{◌≡◌, sym, ◌∙◌, ap, ap₂}
use Rattle.timings.specs.declared.Timings.{Timings}
use Rattle.site.specs.Named.{timings_of, metered_lanes, mainline_lanes, shape_of}
use Rattle.site.proofs.TimingLaws.{timings_good}
use Rattle.period.proofs.RangeLaws.{periods_after, periods_room}
use Rattle.state.proofs.StateLaws.{state_good}
use Rattle.tick.specs.declared.Ticked.{Ticked}
use Rattle.tick.specs.Tick.{counted_in, decided_of, finished_with, accepted_tick}
use Rattle.tick.proofs.TickLaws.{Accepted, accepted, by_parts}
use Rattle.many_ticks.proofs.StepLaws.{shown_colours, shown_sign}
use Rattle.many_ticks.proofs.accept.Goals as goal
use Rattle.many_ticks.proofs.accept.Goals.{After-finished-ticked, Start}

passed : (s : Start) → Accepted s.args.site s.args.state s.args.input
passed s = let a = s.args in accepted a.site a.state a.input s.requires.0

finished-is : (c : After-finished-ticked)
    → let a = c.args in
    c.finished-ticked.result ≡ accepted_tick a.site a.state a.input
finished-is c =
    let a = c.args in
    c.finished-ticked.ensures
    ∙ ap (λ (t : Timings). finished_with t a.state.group a.input a.counted a.decided) c.timings_of-t.ensures
    ∙ ap₂ (finished_with (timings_of a.site) a.state.group a.input) c.requires.1 (c.requires.2 ∙ ap (decided_of a.site a.input) c.requires.1)
    ∙ sym (by_parts a.site a.state a.input)

pub finished-ticked-requires : goal.finished-ticked-requires
unfolding counted_in
finished-ticked-requires c =
    let a = c.args in
    let n = metered_lanes a.site in
    let m = mainline_lanes a.site in
    let p = passed (goal.at.finished-ticked-requires c).Start in
    rw c.requires.1
    (periods_room _ n m (periods_after a.state.periods a.input.lanes a.input.main n m (state_good a.state (shape_of a.site) p.state).periods p.samples))

pub lay-requires : goal.lay-requires
lay-requires c =
    let a = c.args in
    rw (finished-is (goal.at.lay-requires c).After-finished-ticked, c.timings_of-t.ensures)
    ((timings_good a.site (passed (goal.at.lay-requires c).Start).site).lanes_most, c.requires.3, shown_colours a.site a.state a.input c.requires.0, shown_sign a.site a.state a.input c.requires.0)

pub returns : goal.returns
returns c = (record { state = ap (λ (t : Ticked). t.state) (finished-is (goal.at.returns c).After-finished-ticked); laid = c.lay.ensures ∙ rw (finished-is (goal.at.returns c).After-finished-ticked, c.timings_of-t.ensures) })
