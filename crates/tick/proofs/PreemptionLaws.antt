-- The fire service's call: pre-metering dark and green are kept by every tick, and the ticks until then fall at each accepted one.
use Prim.Native.Nat.{ℕ, ◌-◌, ◌≤◌, ◌<◌}
use mathlib.Core.Path.{◌≡◌, refl, sym, ◌∙◌, ap}
use mathlib.Core.Bool.{true, false}
use mathlib.Core.List.{List}
use native.Mathlib.Omega.{arith}
use Rattle.runs.proofs.RunLaws.{both_run, endures, lasts, within}
use Rattle.loops.proofs.Cases.{by_test}
use Rattle.site.specs.declared.Site.{Site}
use Rattle.site.specs.Record.{spoilt_site}
use Rattle.site.specs.Named.{timings_of}
use Rattle.site.proofs.TimingLaws.{timings_good}
use Rattle.group.specs.declared.Group.{Group}
use Rattle.group.specs.Preemption.{is_pre_metering}
use Rattle.group.specs.Group.{interval_of, group_of, moved_with, moved_of}
use Rattle.group.proofs.PreemptionLaws.{stays_held}
use Rattle.preemption.specs.Clearing.{clearing_ticks}
use Rattle.preemption.proofs.ClearingRank.{group_clear_in, clear_falls, clear_within}
use Rattle.tick.specs.Tick.{decided_in, cycle_in, moved_in}
use Rattle.tick.specs.Course.{Call, Course, at_power_up, is_accepted, onward, course_after, AtAccepted, accepted_ticks}
use Rattle.tick.specs.Preemption.{Called, clears, clears_within, PreemptionClears}
use Rattle.tick.proofs.CourseLaws.{stays, Going, before_part, keeps, group_is}

module _ (x : Site) (ok : spoilt_site x ≡ false) where
  -- A tick, accepted at the power-up's site, and with the call on.
  abbrev Given : Course → Call → Type 0
  Given c call = (call.site ≡ x) × Called c call

  module _ (c : Course) (call : Call) (going : Going x ok c) (given : is_accepted c call ≡ true → Given c call) where
    -- The group after it, by the rules.
    abbrev moved : ℕ → Group
    moved preemption = (moved_of (timings_of x) (record { preemption = preemption; bypass = call.input.calls.bypass }) (decided_in x c.state call.input).wish (cycle_in x c.state call.input) call.input.lanes c.state.group).group

    group_after : is_accepted c call ≡ true → (onward c call).state.group ≡ moved 1
    unfolding moved_in
    group_after e = group_is x ok c call going (λ e. (given e).0) e ∙ ap moved (given e).1

    interval_after_lem : is_accepted c call ≡ true
        → (onward c call).state.group.interval ≡ interval_of (timings_of x) 1 (decided_in x c.state call.input).wish c.state.group
    unfolding moved_of moved_with group_of
    interval_after_lem e = ap (λ (g : Group). g.interval) (group_after e)

    on : Going x ok (onward c call)
    on = keeps x ok c call going (λ e. (given e).0)

    -- Pre-metering dark and green stay.
    stays_there : is_pre_metering c.state.group.interval ≡ true → (onward c call).state.group.interval ≡ c.state.group.interval
    stays_there h =
        by_test (is_accepted c call)
        (λ e. interval_after_lem e ∙ stays_held (timings_of x) (decided_in x c.state call.input).wish c.state.group h)
        (λ e. ap (λ (d : Course). d.state.group.interval) (stays c call e))

  -- So they do over a list of such ticks.
  stays_in : (k : ℕ) → is_pre_metering k ≡ true → (c : Course) (run : List Call) → Going x ok c → AtAccepted Given c run
      → c.state.group.interval ≡ k → (course_after c run).state.group.interval ≡ k
  stays_in k pre =
      endures onward is_accepted (Going x ok) Given on (λ c. c.state.group.interval ≡ k)
      (λ c call going given q. stays_there c call going given (ap is_pre_metering q ∙ pre) ∙ q)

  -- Ticks left, the present one not included.
  abbrev rank : Course → ℕ
  rank c = group_clear_in (timings_of x) c.state.group - 1

  in_range : (c : Course) → Going x ok c
      → (1 ≤ group_clear_in (timings_of x) c.state.group) × (group_clear_in (timings_of x) c.state.group ≤ clearing_ticks (timings_of x))
  in_range c going = clear_within (timings_of x) (timings_good x ok) _ c.state.group going.good.group

  falls : (c : Course) (call : Call) → Going x ok c → is_accepted c call ≡ true → Given c call → Called c call → clears c call ≡ false → rank (onward c call) < rank c
  unfolding clears onward
  falls c call going e given called none =
      let next = in_range (onward c call) (on c call going (λ _. given)) in
      let nearer = clear_falls (timings_of x) (timings_good x ok) call.input.calls.bypass (decided_in x c.state call.input).wish (cycle_in x c.state call.input) call.input.lanes c.state.group going.good.group in
      let after = group_after c call going (λ _. given) e in
      let fewer : group_clear_in (timings_of x) (onward c call).state.group < group_clear_in (timings_of x) c.state.group =
      rw after (nearer (sym (ap (λ (g : Group). is_pre_metering g.interval) after) ∙ none)) in
      omega (arith, next.0, fewer)

  -- The group is there in time,
  in_time : (c : Course) (run : List Call) → Going x ok c → AtAccepted Given c run → AtAccepted Called c run
      → clearing_ticks (timings_of x) ≤ accepted_ticks c run → clears_within (clearing_ticks (timings_of x)) c run ≡ true
  in_time c run going given called long =
      within onward is_accepted (Going x ok) Given on Called clears rank stays falls (clearing_ticks (timings_of x)) c run going given called
      (omega (arith, in_range c going)) long

  -- and once there, it is there at the list's end.
  once_there : (k : ℕ) (c : Course) (run : List Call) → Going x ok c → AtAccepted Given c run
      → clears_within k c run ≡ true → is_pre_metering (course_after c run).state.group.interval ≡ true
  unfolding clears onward
  once_there =
      lasts onward is_accepted (Going x ok) Given on (λ c. is_pre_metering c.state.group.interval ≡ true) clears (λ c call e. e)
      (λ c call going given h. ap is_pre_metering (stays_there c call going given h) ∙ h)

pub preemption_clears : (x : Site) → PreemptionClears x
unfolding PreemptionClears is_pre_metering
preemption_clears x ok before run same called =
    let t = timings_of x in
    let c = course_after (at_power_up x) before in
    let part = before_part x ok before run same in
    let going = part.0 in
    let given = both_run onward is_accepted (λ c call. call.site ≡ x) Called c run part.1 called in
    record {
      dark = stays_in x ok 1 refl c run going given;
      green = stays_in x ok 2 refl c run going given;
      in_time = in_time x ok c run going given called;
      at_end = λ long. once_there x ok (clearing_ticks t) c run going given (in_time x ok c run going given called long);
    }
