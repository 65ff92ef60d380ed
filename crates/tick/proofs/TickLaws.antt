-- What an accepted tick has been checked for, its entry and its cycle, and that it keeps the state in range.
use Prim.Native.Nat.{ℕ, ◌≤◌}
use mathlib.Core.Path.{◌≡◌, refl, sym}
use mathlib.Core.Bool.{Bool, true, false, cond}
use native.Mathlib.Omega.{arith}
use lib.Dec.{eqb}
use Rattle.std.specs.Prelude.{Option, Some, None}
use Rattle.std.proofs.lemmas.Option.{none-some}
use Rattle.refusals.specs.declared.Refusal.{Refusal}
use Rattle.loops.proofs.AnyLaws.{neither}
use Rattle.loops.proofs.Cases.{by_test}
use Rattle.site.specs.declared.Site.{Site}
use Rattle.site.specs.Record.{spoilt_site}
use Rattle.site.specs.Named.{timings_of, metered_lanes, mainline_lanes, shape_of}
use Rattle.site.proofs.TimingLaws.{timings_good}
use Rattle.timings.specs.declared.Shape.{Shape}
use Rattle.calendar.specs.Clock.{clock_bad}
use Rattle.calendar.specs.Named.{Typed}
use Rattle.inputs.specs.Samples.{samples_bad, calls_bad}
use Rattle.inputs.specs.Commands.{commands_bad}
use Rattle.period.proofs.RangeLaws.{periods_after, periods_released}
use Rattle.wanted.specs.declared.wish.Wish.{Wish}
use Rattle.wanted.specs.declared.wish.Wish.TheVariants.{Dark, Green, Metering, Clear}
use Rattle.wanted.specs.Wish.{rate_of}
use Rattle.wanted.specs.Decision.{EntryInForce, command_in_force, decision_of}
use Rattle.wanted.specs.Levelled.{Levelled}
use Rattle.wanted.proofs.EntryLaws.{day_is, entry_is}
use Rattle.wanted.proofs.LevelLaws.{levelled}
use Rattle.wanted.proofs.RateLaws.{WishGood, wish_good, rate_cases}
use Rattle.release.specs.Cycle.{cycle_ticks}
use Rattle.release.proofs.CycleLaws.{cycle_nearest, cycle_most, cycle_least, no_cycle}
use Rattle.group.specs.Intervals.{from_metering}
use Rattle.group.specs.Preemption.{steered_wish}
use Rattle.group.specs.Group.{group_of, moved_with, moved_of}
use Rattle.group.specs.Steered.{Steered}
use Rattle.group.specs.Searched.{Searched}
use Rattle.group.proofs.PreemptionLaws.{steered}
use Rattle.group.proofs.RangeLaws.{moved_good, moved_released}
use Rattle.group.proofs.SearchLaws.{moved_searched}
use Rattle.state.specs.declared.State.{State}
use Rattle.state.specs.State.{state_spoilt}
use Rattle.state.proofs.StateLaws.{StateGood, state_good}
use Rattle.waiting.proofs.LaneRank.{Sound}
use Rattle.serving.specs.Bypassed.{Bypassed}
use Rattle.serving.proofs.BypassedLaws.{bypassed}
use Rattle.tick.specs.declared.Input.{Input}
use Rattle.tick.specs.Checks.{sample_bad, input_refusal, tick_refusal}
use Rattle.tick.specs.Tick.{counted_in, decided_in, cycle_in, moved_in, decided_of, finished_with, accepted_tick, refused_tick, tick_by, tick_of}
use Rattle.tick.specs.Cycle.{MeteringCycle, Cycled}

pub record Accepted (x : Site) (s : State) (i : Input) : Type 0 where
  pub site : spoilt_site x ≡ false
  pub state : state_spoilt s (shape_of x) ≡ false
  pub clock : clock_bad i.clock ≡ false
  pub samples : samples_bad i.lanes i.main (metered_lanes x) (mainline_lanes x) ≡ false
  pub commands : commands_bad i.manual i.centre ≡ false

-- Where a check refuses nothing, what it asks does not hold, and the rest refuses nothing.
passes : (b : Bool) (k : Refusal) (rest : Option Refusal) → cond b (Some k) rest ≡ None → (b ≡ false) × (rest ≡ None)
passes true k rest e = absurd (none-some k (sym e))
passes false k rest e = (refl, e)

-- An input that no check refuses, at a site of this shape.
pub record Fine (h : Shape) (i : Input) : Type 0 where
  pub clock : clock_bad i.clock ≡ false
  pub samples : samples_bad i.lanes i.main h.lanes h.mainline ≡ false
  pub commands : commands_bad i.manual i.centre ≡ false

pub fine : (h : Shape) (i : Input) → input_refusal h i ≡ None → Fine h i
unfolding input_refusal sample_bad
fine h i e =
    let r = passes (clock_bad i.clock) _ _ e in
    let u = passes (sample_bad h i) _ _ r.1 in
    let w = (neither (samples_bad i.lanes i.main h.lanes h.mainline) (calls_bad i.calls) u.0).0 in
    let v = passes (commands_bad i.manual i.centre) _ _ u.1 in
    record { clock = r.0; samples = w; commands = v.0 }

pub accepted : (x : Site) (s : State) (i : Input) → tick_refusal x s i ≡ None → Accepted x s i
unfolding tick_refusal
accepted x s i e =
    let p = passes (spoilt_site x) _ _ e in
    let q = passes (state_spoilt s (shape_of x)) _ _ p.1 in
    let f = fine (shape_of x) i q.1 in
    record { site = p.0; state = q.0; clock = f.clock; samples = f.samples; commands = f.commands }

-- The input's checks are among the tick's.
pub input_passed : (x : Site) (s : State) (i : Input) → tick_refusal x s i ≡ None → input_refusal (shape_of x) i ≡ None
unfolding tick_refusal
input_passed x s i e = (passes (state_spoilt s (shape_of x)) _ _ (passes (spoilt_site x) _ _ e).1).1

-- The timings of a site that is not spoilt.
pub sound_timings : (x : Site) → spoilt_site x ≡ false → Sound (timings_of x)
sound_timings x ok =
    let g = timings_good x ok in
    record {
      least = g.lanes_least;
      most = g.lanes_most;
      some_green = omega (arith, g.green_least);
      green = omega (arith, g.green_most);
      some_yellow = omega (arith, g.yellow_least);
      yellow = omega (arith, g.yellow_most);
      some_red = omega (arith, g.red_least);
      red = omega (arith, g.red_most);
    }

-- The cycle of a wish in range.
module _ (vehicles : ℕ) (one : 1 ≤ vehicles) (three : vehicles ≤ 3) where
  metering_cycle : (rate : ℕ) → WishGood (Metering rate) → MeteringCycle vehicles rate (cycle_ticks vehicles rate)
  metering_cycle rate g = record {
    nearest = cycle_nearest vehicles rate (omega (arith, g.0));
    least = cycle_least vehicles rate one (omega (arith, g.0)) g.1;
    most = cycle_most vehicles rate three g.0;
  }

  no_metering : (w : Wish) → ((rate : ℕ) → w ≡ Metering rate → ⊥) → cycle_ticks vehicles (rate_of w) ≡ 0
  no_metering Dark f = no_cycle vehicles
  no_metering Green f = no_cycle vehicles
  no_metering (Metering rate) f = absurd (f rate refl)
  no_metering Clear f = no_cycle vehicles

  wish_cycle : (w : Wish) → WishGood w → Cycled vehicles w (cycle_ticks vehicles (rate_of w))
  wish_cycle w g = record { metering = λ rate e. rw e (metering_cycle rate (rw e at g)); other = no_metering w }

  -- Where metering goes on, the wish has a cycle of 20 at the least.
  least_of_wish : (w : Wish) → WishGood w → from_metering w ≡ 7 → 20 ≤ cycle_ticks vehicles (rate_of w)
  least_of_wish Dark g e = absurd (omega arith)
  least_of_wish Green g e = absurd (omega arith)
  least_of_wish (Metering rate) g e = (metering_cycle rate g).least
  least_of_wish Clear g e = absurd (omega arith)

-- The cycle of a wish in range is 720 ticks at the most, at any site.
pub cycle_fits : (x : Site) (w : Wish) → spoilt_site x ≡ false → WishGood w → cycle_ticks (timings_of x).vehicles (rate_of w) ≤ 720
cycle_fits x w ok good =
    let g = timings_good x ok in
    let vehicles = (timings_of x).vehicles in
    rate_cases w (λ r. cycle_ticks vehicles r ≤ 720) good (rw (no_cycle vehicles) (omega arith)) (λ r h. cycle_most vehicles r g.vehicles_most h)

module _ (x : Site) (s : State) (i : Input) (a : Accepted x s i) where
  wish_in : WishGood (decided_in x s i).wish
  unfolding decided_in
  wish_in = wish_good x a.site i.clock i.manual i.centre (counted_in x s i) a.commands

  -- Its day type and its entry are those of the requests' words.
  pub tick_day : Typed i.clock.date x.dates x.holidays (accepted_tick x s i).decision.day
  unfolding accepted_tick decided_in decision_of
  tick_day = day_is x i.clock a.clock

  pub tick_entry : EntryInForce x i.clock (accepted_tick x s i).decision.entry
  unfolding accepted_tick decided_in decision_of
  tick_entry = entry_is x i.clock a.site a.clock

  -- Its level is the one that whole numbers decide, and its wish what that gives.
  pub tick_levelled : Levelled x (command_in_force x i.clock i.manual i.centre) (counted_in x s i) (accepted_tick x s i).decision.level (accepted_tick x s i).decision.wish
  unfolding accepted_tick decided_in counted_in
  tick_levelled =
      let n = metered_lanes x in
      let m = mainline_lanes x in
      levelled x i.clock i.manual i.centre (counted_in x s i) n (timings_good x a.site).mainline_most
      (periods_after s.periods i.lanes i.main n m (state_good s (shape_of x) a.state).periods a.samples)

  -- Its cycle is the nearest whole tick and lies in 20 to 720 where metering is wished, and is none elsewhere.
  pub tick_cycle : Cycled (timings_of x).vehicles (accepted_tick x s i).decision.wish (accepted_tick x s i).cycle
  unfolding accepted_tick cycle_in
  tick_cycle =
      let g = timings_good x a.site in
      wish_cycle (timings_of x).vehicles g.vehicles_least g.vehicles_most (decided_in x s i).wish wish_in

  -- At any wish it is 720 ticks at the most, and 20 at the least where metering goes on.
  pub cycle_in_lem : cycle_in x s i ≤ 720
  unfolding cycle_in
  cycle_in_lem = cycle_fits x (decided_in x s i).wish a.site wish_in

  pub least_cycle : from_metering (steered_wish i.calls.preemption (decided_in x s i).wish) ≡ 7 → 20 ≤ cycle_in x s i
  unfolding cycle_in steered_wish
  least_cycle e =
      let g = timings_good x a.site in
      by_test (eqb i.calls.preemption 1)
      (λ p. let y : from_metering Clear ≡ 7 = rw p at e in absurd (omega arith))
      (λ p. least_of_wish (timings_of x).vehicles g.vehicles_least g.vehicles_most (decided_in x s i).wish wish_in (rw p at e))

  pub tick_keeps : StateGood (accepted_tick x s i).state (shape_of x)
  unfolding accepted_tick moved_in counted_in
  tick_keeps =
      let n = metered_lanes x in
      let m = mainline_lanes x in
      let g = state_good s (shape_of x) a.state in
      let h = (timings_good x a.site).lanes_least in
      let p = (timings_good x a.site).priority_most in
      let wish = (decided_in x s i).wish in
      record {
        group = moved_good (timings_of x) i.calls wish (cycle_in x s i) i.lanes s.group h p g.group;
        periods = periods_released s.periods i.lanes i.main n m _ g.periods a.samples
            (moved_released (timings_of x) i.calls wish (cycle_in x s i) i.lanes s.group h p g.group);
      }

  -- What it makes of a bypass is what the request's words say.
  pub tick_bypassed : Bypassed (timings_of x) i.calls (accepted_tick x s i).decision.wish (accepted_tick x s i).cycle i.lanes s.group
      (record { group = (accepted_tick x s i).state.group; released = (accepted_tick x s i).released })
  unfolding accepted_tick moved_in
  tick_bypassed =
      bypassed (timings_of x) (timings_good x a.site) i.calls (decided_in x s i).wish (cycle_in x s i) i.lanes s.group
      (state_good s (shape_of x) a.state).group

  -- The lane that it releases is the one that the request's words name.
  pub tick_searched : Searched (timings_of x) (accepted_tick x s i).cycle i.lanes s.group
      (record { group = (accepted_tick x s i).state.group; released = (accepted_tick x s i).released })
  unfolding accepted_tick moved_in
  tick_searched =
      let ok = timings_good x a.site in
      moved_searched (timings_of x) i.calls (decided_in x s i).wish (cycle_in x s i) i.lanes s.group ok.lanes_least ok.priority_most
      ok.lanes_most (omega (arith, ok.red_least)) (state_good s (shape_of x) a.state).group (λ on. (least_cycle on, cycle_in_lem))

-- Its interval is that of the request's words, under the wish that it gives.
pub tick_steered : (x : Site) (s : State) (i : Input)
    → Steered (timings_of x) i.calls.preemption (accepted_tick x s i).decision.wish s.group (accepted_tick x s i).state.group.interval
unfolding accepted_tick moved_in moved_of moved_with group_of
tick_steered x s i = steered (timings_of x) i.calls.preemption (decided_in x s i).wish s.group

-- Where site and state are in range, the input's checks alone can refuse.
pub input_alone : (x : Site) (s : State) (i : Input) → spoilt_site x ≡ false → state_spoilt s (shape_of x) ≡ false → tick_refusal x s i ≡ input_refusal (shape_of x) i
unfolding tick_refusal
input_alone x s i a b = rw (a, b)

-- A tick answers what its checks do; where none refuses, it is what the rules make of it, and its state is in range again.
module _ (x : Site) (s : State) (i : Input) where
  pub refusal_is : (tick_of x s i).refusal ≡ tick_refusal x s i
  unfolding tick_of tick_by accepted_tick refused_tick
  refusal_is = said (tick_refusal x s i)
    where
      said : (r : Option Refusal) → (tick_by x s i r).refusal ≡ r
      said None = refl
      said (Some r) = refl

  pub tick_is : tick_refusal x s i ≡ None → tick_of x s i ≡ accepted_tick x s i
  unfolding tick_of tick_by
  tick_is e = rw e

  pub tick_kept : tick_refusal x s i ≡ None → StateGood (tick_of x s i).state (shape_of x)
  tick_kept e = rw (tick_is e) (tick_keeps x s i (accepted x s i e))

-- An accepted tick, by its parts.
pub by_parts : (x : Site) (s : State) (i : Input) → accepted_tick x s i ≡ finished_with (timings_of x) s.group i (counted_in x s i) (decided_of x i (counted_in x s i))
unfolding accepted_tick moved_in decided_in cycle_in finished_with decided_of
by_parts x s i = refl
