-- The check for 14, then zeros or a fresh state.
use Rattle.tick.specs.Tick.{power_up_of}
use Rattle.tick.proofs.ServingLaws.{over_lists}
use Rattle.site.specs.Named.{metered_lanes, shape_of}
use Rattle.site.proofs.TimingLaws.{timings_good}
use Rattle.state.specs.State.{fresh_state}
use Rattle.state.proofs.StateLaws.{good_state, fresh_good}
use mathlib.Core.Path.{sym, ◌∙◌}
use Rattle.std.proofs.lemmas.Option.{none-some}
use Rattle.tick.proofs.power_up.Goals as goal

pub returns-then-spoilt : goal.returns-then-spoilt
unfolding power_up_of
returns-then-spoilt c =
    let lists = over_lists c.args.site in
    record {
      is = rw (← c.spoilt.ensures, c.if-spoilt.true, c.zero.ensures);
      kept = λ z. absurd (none-some _ (sym z));
      waits = lists.0;
      clears = lists.1.0;
      serves = lists.1.1.0;
      holds = lists.1.1.1;
    }

pub returns : goal.returns
unfolding power_up_of
returns c =
    let x = c.args.site in
    let ok = sym c.spoilt.ensures ∙ c.if-spoilt.false in
    let good = fresh_good (shape_of x) (timings_good x ok).lanes_least in
    let lists = over_lists x in
    record {
      is = rw (ok, c.fresh.ensures, c.shape_of.ensures);
      kept = λ _. rw (c.fresh.ensures, c.shape_of.ensures) (good_state (fresh_state (metered_lanes x)) (shape_of x) good);
      waits = lists.0;
      clears = lists.1.0;
      serves = lists.1.1.0;
      holds = lists.1.1.1;
    }
