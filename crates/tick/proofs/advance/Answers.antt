-- Counted, decided and finished: the accepted tick by its parts.
use Rattle.tick.specs.declared.Ticked.{Ticked}
use Rattle.state.specs.State.{state_spoilt}
use Rattle.tick.specs.Tick.{counted_in, decided_of, finished_with, accepted_tick}
use Rattle.tick.proofs.TickLaws.{Accepted, accepted, input_passed, tick_keeps, by_parts}
use Rattle.site.specs.Named.{timings_of, metered_lanes, mainline_lanes, shape_of}
use Rattle.period.proofs.RangeLaws.{periods_good, good_periods, periods_room}
use Rattle.state.proofs.StateLaws.{state_good, good_state}
use mathlib.Core.Path.{◌≡◌, ap, ap₂, sym, ◌∙◌}
use Rattle.tick.proofs.advance.Goals as goal
use Rattle.tick.proofs.advance.Goals.{After-finished, Start}

passed : (s : Start) → Accepted s.args.site s.args.state s.args.input
passed s = let a = s.args in accepted a.site a.state a.input s.requires

counted_at_after_finished : (c : After-finished) → let a = c.args in c.after_tick-counted.result ≡ counted_in a.site a.state a.input
unfolding counted_in
counted_at_after_finished c = c.after_tick-counted.ensures.is ∙ rw c.shape_of-shape.ensures

is : (c : After-finished) → let a = c.args in c.finished.result ≡ accepted_tick a.site a.state a.input
is c =
    let a = c.args in
    let d : c.decision_of-decided.result ≡ decided_of a.site a.input (counted_in a.site a.state a.input) =
    c.decision_of-decided.ensures ∙ ap (decided_of a.site a.input) (counted_at_after_finished c) in
    c.finished.ensures
    ∙ rw c.timings_of-t.ensures
    (ap₂ (finished_with (timings_of a.site) a.state.group a.input) (counted_at_after_finished c) d ∙ sym (by_parts a.site a.state a.input))

pub after_tick-counted-requires : goal.after_tick-counted-requires
after_tick-counted-requires c =
    let a = c.args in
    let n = metered_lanes a.site in
    let m = mainline_lanes a.site in
    let p = passed (goal.at.after_tick-counted-requires c).Start in
    rw c.shape_of-shape.ensures (good_periods a.state.periods n m (state_good a.state (shape_of a.site) p.state).periods, p.samples)

pub decision_of-decided-requires : goal.decision_of-decided-requires
decision_of-decided-requires c =
    let a = c.args in
    ((passed (goal.at.decision_of-decided-requires c).Start).site, input_passed a.site a.state a.input c.requires)

pub finished-requires : goal.finished-requires
finished-requires c =
    let a = c.args in
    let n = metered_lanes a.site in
    let m = mainline_lanes a.site in
    periods_room c.after_tick-counted.result n m (periods_good c.after_tick-counted.result n m (rw c.shape_of-shape.ensures at c.after_tick-counted.ensures.kept))

pub returns : goal.returns
returns c =
    let a = c.args in (record {
      is = is c;
      kept = ap (λ (r : Ticked). state_spoilt r.state (shape_of a.site)) (is c)
          ∙ good_state (accepted_tick a.site a.state a.input).state (shape_of a.site) (tick_keeps a.site a.state a.input (passed (goal.at.returns c).Start));
    })
