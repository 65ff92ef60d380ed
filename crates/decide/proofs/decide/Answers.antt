-- The refusal, or the decision: no refusal means a site, a state and a clock in range.
use Rattle.calendar.specs.Clock.{clock_bad}
use Rattle.site.specs.Record.{spoilt_site}
use Rattle.site.specs.Named.{metered_lanes, shape_of}
use Rattle.site.proofs.TimingLaws.{timings_good}
use Rattle.wanted.specs.Decision.{decision_of}
use Rattle.wanted.proofs.ClockLaws.{tenth_good}
use Rattle.wanted.proofs.EntryLaws.{day_is, entry_is}
use Rattle.wanted.proofs.LevelLaws.{levelled}
use Rattle.state.specs.State.{state_spoilt}
use Rattle.state.proofs.StateLaws.{state_good}
use Rattle.decide.proofs.AcceptedLaws.{accepted}
use Rattle.decide.specs.Decide.{unless, decided_of}
use mathlib.Core.Bool.{false}
use mathlib.Core.Path.{◌≡◌}
use Rattle.decide.proofs.decide.Goals as goal
use Rattle.decide.proofs.decide.Goals.{In_default}

in_range : (c : In_default)
    → let a = c.args in
    (spoilt_site a.site ≡ false) × ((state_spoilt a.state (shape_of a.site) ≡ false) × (clock_bad a.clock ≡ false))
in_range c =
    let a = c.args in
    accepted a.site a.state a.clock a.manual a.centre (rw (← c.refusal_of.ensures) c.in_default.is)

pub returns-in-Some-clause-is : goal.returns-in-Some-clause-is
unfolding decided_of unless
returns-in-Some-clause-is c = rw (← c.refusal_of.ensures, c.in-Some.is)

pub wanted_now-requires : goal.wanted_now-requires
wanted_now-requires c = tenth_good _ (in_range (goal.at.wanted_now-requires c).In_default).1.1

pub returns : goal.returns
unfolding decided_of decision_of unless
returns c =
    let a = c.args in
    let range = in_range (goal.at.returns c).In_default in
    record {
      is = rw (← c.refusal_of.ensures, c.in_default.is, c.wanted_now.ensures);
      day = rw c.wanted_now.ensures (day_is a.site a.clock range.1.1);
      entry = rw c.wanted_now.ensures (entry_is a.site a.clock range.0 range.1.1);
      levelled = rw c.wanted_now.ensures
          (levelled a.site a.clock a.manual a.centre a.state.periods (metered_lanes a.site)
          (timings_good a.site range.0).mainline_most (state_good a.state (shape_of a.site) range.1.0).periods);
    }
