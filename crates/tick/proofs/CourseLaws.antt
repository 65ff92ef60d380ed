-- A list of ticks since power-up: what each leaves, and what holds of it all along.
use mathlib.Core.Path.{◌≡◌, refl, sym, ◌∙◌, ap, subst}
use mathlib.Core.Bool.{true, false, true≢false}
use mathlib.Core.List.{List, ◌++◌}
use native.Mathlib.Omega.{arith}
use Rattle.std.specs.Prelude.{Option, Some, None}
use Rattle.std.specs.Option.{is_none}
use Rattle.refusals.specs.declared.Refusal.{Refusal}
use Rattle.runs.proofs.RunLaws.{split_run, reached}
use Rattle.site.specs.declared.Site.{Site}
use Rattle.site.specs.Record.{spoilt_site}
use Rattle.site.specs.Named.{timings_of, metered_lanes, shape_of}
use Rattle.site.proofs.TimingLaws.{timings_good}
use Rattle.loops.proofs.Cases.{by_test}
use Rattle.group.specs.Indications.{indications_of}
use Rattle.state.specs.declared.State.{State}
use Rattle.state.specs.State.{fresh_state}
use Rattle.state.proofs.StateLaws.{StateGood, fresh_good}
use Rattle.waiting.proofs.LaneRank.{Sound}
use Rattle.waiting.proofs.Chain.{Chain, chain_enter, chain_moved}
use Rattle.tick.specs.Checks.{tick_refusal}
use Rattle.tick.specs.Tick.{power_up_of, decided_in, cycle_in, moved_in, accepted_tick, refused_tick, tick_by, tick_of}
use Rattle.tick.specs.Course.{Call, Course, at_power_up, answer_to, is_accepted, onward, course_after, AtAccepted}
use Rattle.tick.proofs.TickLaws.{Accepted, accepted, refusal_is, tick_is, sound_timings, tick_keeps}

-- A tick is accepted where no check refuses it, and is then what the rules make of it; a refused one leaves all as it was.
module _ (c : Course) (call : Call) where
  abbrev refusal : Option Refusal
  refusal = tick_refusal call.site c.state call.input

  not_refused : is_accepted c call ≡ true → refusal ≡ None
  unfolding is_accepted answer_to
  not_refused e = none_is refusal (ap is_none (sym (refusal_is call.site c.state call.input)) ∙ e)
    where
      none_is : (r : Option Refusal) → is_none r ≡ true → r ≡ None
      none_is None e = refl
      none_is (Some r) e = absurd (true≢false (sym e))

  answer_accepted : is_accepted c call ≡ true → answer_to c call ≡ accepted_tick call.site c.state call.input
  unfolding answer_to
  answer_accepted e = tick_is call.site c.state call.input (not_refused e)

  same_state : is_accepted c call ≡ false → (answer_to c call).state ≡ c.state
  unfolding is_accepted answer_to tick_of tick_by accepted_tick refused_tick
  same_state e = left refusal e
    where
      left : (r : Option Refusal) → is_none (tick_by call.site c.state call.input r).refusal ≡ false → (tick_by call.site c.state call.input r).state ≡ c.state
      left None e = absurd (true≢false e)
      left (Some r) e = refl

  pub stays : is_accepted c call ≡ false → onward c call ≡ c
  unfolding onward
  stays e = rw (e, same_state e)

module _ (x : Site) (ok : spoilt_site x ≡ false) where
  pub sound : Sound (timings_of x)
  sound = sound_timings x ok

  -- What holds since power-up. Once the group is in metering, the lamps last shown are those of the state.
  pub record Going (c : Course) : Type 0 where
    pub good : StateGood c.state (shape_of x)
    pub chain : Chain (timings_of x) c.state.group.lanes
    pub lamps : c.state.group.interval ≡ 7 → c.shown ≡ indications_of c.state.group (metered_lanes x)

  pub start : Going (at_power_up x)
  unfolding at_power_up power_up_of fresh_state
  start =
      let g = fresh_good (shape_of x) (timings_good x ok).lanes_least in
      rw ok (record { good = g; chain = chain_enter (timings_of x) sound; lamps = λ z. absurd (omega arith) })

  module _ (c : Course) (call : Call) (going : Going c) (same : is_accepted c call ≡ true → call.site ≡ x) where
    -- An accepted tick, at the power-up's site.
    pub passed : is_accepted c call ≡ true → Accepted x c.state call.input
    passed e = accepted x c.state call.input (subst (λ (y : Site). tick_refusal y c.state call.input ≡ None) (same e) (not_refused c call e))

    pub answer : is_accepted c call ≡ true → answer_to c call ≡ accepted_tick x c.state call.input
    answer e = answer_accepted c call e ∙ ap (λ y. accepted_tick y c.state call.input) (same e)

    pub onward_state : is_accepted c call ≡ true → (onward c call).state ≡ (accepted_tick x c.state call.input).state
    unfolding onward
    onward_state e = ap (λ r. r.state) (answer e)

    abbrev next : Course
    next = record { state = (accepted_tick x c.state call.input).state; shown = (accepted_tick x c.state call.input).shown }

    onward_is : is_accepted c call ≡ true → onward c call ≡ next
    unfolding onward
    onward_is e = rw (e, answer e)

    moved_on : Accepted x c.state call.input → Going next
    unfolding accepted_tick moved_in
    moved_on a =
        let s = c.state in
        let i = call.input in
        record {
          good = tick_keeps x s i a;
          chain = chain_moved (timings_of x) sound (timings_good x ok).priority_most i.calls (decided_in x s i).wish (cycle_in x s i) i.lanes s.group going.good.group going.chain;
          lamps = λ _. refl;
        }

    -- Every tick, accepted or refused, keeps it.
    pub keeps : Going (onward c call)
    keeps =
        by_test (is_accepted c call)
        (λ e. subst Going (sym (onward_is e)) (moved_on (passed e)))
        (λ e. subst Going (sym (stays c call e)) going)

    -- What the tick does to the group, and the lane that it releases.
    pub group_is : is_accepted c call ≡ true → (onward c call).state.group ≡ (moved_in x c.state call.input).group
    unfolding accepted_tick
    group_is e = ap (λ (q : State). q.group) (onward_state e)

    pub released_is : is_accepted c call ≡ true → (answer_to c call).released ≡ (moved_in x c.state call.input).released
    unfolding accepted_tick
    released_is e = ap (λ r. r.released) (answer e)

  -- What a list of ticks at the power-up's site has come to before a part of it, and that the part is at that site too.
  pub before_part : (before run : List Call) → AtAccepted (λ c call. call.site ≡ x) (at_power_up x) (before ++ run)
      → Going (course_after (at_power_up x) before) × AtAccepted (λ c call. call.site ≡ x) (course_after (at_power_up x) before) run
  before_part before run same =
      let parts = split_run onward is_accepted (λ c call. call.site ≡ x) (at_power_up x) before run same in
      (reached onward is_accepted Going (λ c call. call.site ≡ x) keeps (at_power_up x) before start parts.0, parts.1)
