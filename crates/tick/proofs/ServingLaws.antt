-- The promise to the bus: the ticks until its lane is green fall at each accepted one, and a green lane stays green until an end.
use Prim.Native.Nat.{ℕ, suc, ◌-◌, ◌≤◌, ◌<◌}
use mathlib.Core.Path.{◌≡◌, sym, ◌∙◌, ap, subst}
use mathlib.Core.Bool.{Bool, true, false, not, true≢false}
use mathlib.Core.List.{List, ◌∷◌}
use native.Mathlib.Omega.{arith}
use borrow.Author.Tests.{eqb-true, eq-eqb, lt-ltb}
use lib.Dec.{eqb}
use lib.ListN.{get_or}
use Rattle.runs.proofs.RunLaws.{one_less, both_run, until, reached, endures}
use Rattle.loops.proofs.Cases.{by_test, both_true, or_else}
use Rattle.site.specs.declared.Site.{Site}
use Rattle.site.specs.Record.{spoilt_site}
use Rattle.site.specs.Named.{timings_of, metered_lanes}
use Rattle.site.proofs.TimingLaws.{TimingsGood, timings_good}
use Rattle.timings.specs.declared.Timings.{Timings}
use Rattle.wanted.specs.declared.wish.Wish.{Wish}
use Rattle.lanes.specs.declared.Lanes.{Lanes}
use Rattle.bypass.specs.declared.Bypass.{Bypass}
use Rattle.bypass.specs.declared.Doing.TheVariants.{None, Waits, Runs}
use Rattle.bypass.specs.Lanes.{place_of, priority_of, has_passed, doing_of}
use Rattle.group.specs.declared.Group.{Group}
use Rattle.group.specs.Intervals.{from_metering}
use Rattle.group.specs.Group.{moved_of}
use Rattle.group.specs.declared.indication.Indications.{Indications}
use Rattle.group.specs.Indications.{lane_shown, colour_shown}
use Rattle.serving.specs.Serving.{serving_ticks}
use Rattle.serving.proofs.ServingRank.{served_in, some_served, served_falls, stays_served, stays_kept_on}
use Rattle.tick.specs.declared.Ticked.{Ticked}
use Rattle.tick.specs.Tick.{decided_in, cycle_in, moved_in, accepted_tick}
use Rattle.tick.specs.Course.{Call, Course, at_power_up, answer_to, is_accepted, onward, course_after, AtAccepted, accepted_ticks}
use Rattle.tick.specs.Waiting.{WaitingBound}
use Rattle.tick.specs.Preemption.{PreemptionClears}
use Rattle.tick.specs.Serving.{begins_bypass, Calling, is_running, is_served, served_within, BusServed, NoEnd, BusHeld}
use Rattle.tick.proofs.CourseLaws.{stays, Going, before_part, answer, keeps, group_is}
use Rattle.tick.proofs.WaitingLaws.{colours_at, waiting_bound_lem}
use Rattle.tick.proofs.PreemptionLaws.{preemption_clears}

-- What the bypass does, by its colour.
runs_is : (t : Timings) (b : Bypass) (s : Lanes) → b.kept ≡ true → eqb (priority_of t s).colour 3 ≡ true → doing_of t b s ≡ Runs
unfolding doing_of
runs_is t b s k e = rw (k, e)

is_runs : (t : Timings) (b : Bypass) (s : Lanes) → doing_of t b s ≡ Runs → (b.kept ≡ true) × (eqb (priority_of t s).colour 3 ≡ true)
unfolding doing_of
is_runs t b s e =
    by_test b.kept
    (λ k. by_test (eqb (priority_of t s).colour 3) (λ f. (k, f)) (λ f. absurd (waits_not (rw (k, f) at e))))
    (λ k. absurd (none_not (rw k at e)))
  where
    waits_not : Waits ≡ Runs → ⊥
    waits_not z = true≢false (sym (ap is_running z))

    none_not : None ≡ Runs → ⊥
    none_not z = true≢false (sym (ap is_running z))

no_passage : (t : Timings) (s : Lanes) (passage : List ℕ) → get_or passage (place_of t) 0 ≡ 0 → has_passed t s passage ≡ false
unfolding has_passed
no_passage t s passage e = by_test (eqb (priority_of t s).colour 3) (λ f. rw (f, e)) (λ f. rw f)

no_green : (t : Timings) (s : Lanes) (passage : List ℕ) → eqb (priority_of t s).colour 3 ≡ false → has_passed t s passage ≡ false
unfolding has_passed
no_green t s passage e = rw e

shown_is : (c : Course) (call : Call) → is_accepted c call ≡ true → (onward c call).shown ≡ (answer_to c call).shown
unfolding onward
shown_is c call e = rw e

some_ticks : (t : Timings) → TimingsGood t → 1 ≤ serving_ticks t
unfolding serving_ticks
some_ticks t g = omega (arith, g.yellow_least)

module _ (x : Site) (ok : spoilt_site x ≡ false) where
  abbrev t : Timings
  t = timings_of x

  good : TimingsGood t
  good = timings_good x ok

  -- Kept, and its lane not green yet.
  abbrev kept : Course → Type 0
  kept c = c.state.group.bypass.kept ≡ true

  abbrev is_green : Course → Bool
  is_green c = eqb (priority_of t c.state.group.lanes).colour 3

  some_lane : (c : Course) → Going x ok c → kept c → 1 ≤ t.priority
  some_lane c going k = going.good.group.bypass.some_lane k

  -- The lamps show the priority lane as it is, in metering.
  shown_own : (g : Group) → g.interval ≡ 7 → 1 ≤ t.priority → (priority_of t g.lanes).colour ≡ 3 → lane_shown g (metered_lanes x) (place_of t) ≡ 3
  unfolding lane_shown colour_shown place_of priority_of
  shown_own g b some green = rw (lt-ltb (t.priority - 1) (metered_lanes x) (omega (arith, good.priority_most)), b, green)

  shows : (c : Course) → Going x ok c → kept c → is_green c ≡ true → get_or c.shown.colours (place_of t) 0 ≡ 3
  unfolding place_of
  shows c going k green =
      let seven = eqb-true c.state.group.interval 7 (going.good.group.bypass.in_metering k) in
      let some = some_lane c going k in
      ap (λ (d : Indications). get_or d.colours (place_of t) 0) (going.lamps seven)
      ∙ colours_at c.state.group (metered_lanes x) (place_of t) (omega (arith, some, good.priority_most, good.lanes_most))
      ∙ shown_own c.state.group seven some (eqb-true _ 3 green)

  -- An accepted tick at the power-up's site.
  module _ (c : Course) (call : Call) (going : Going x ok c) (same : call.site ≡ x) (e : is_accepted c call ≡ true) where
    abbrev wish : Wish
    wish = (decided_in x c.state call.input).wish

    abbrev moved : Group
    moved = (moved_of t call.input.calls wish (cycle_in x c.state call.input) call.input.lanes c.state.group).group

    after_is : (onward c call).state.group ≡ moved
    unfolding moved_in
    after_is = group_is x ok c call going (λ _. same) e

    on : Going x ok (onward c call)
    on = keeps x ok c call going (λ _. same)

    answered : answer_to c call ≡ accepted_tick x c.state call.input
    answered = answer x ok c call going (λ _. same) e

    meters : Calling x c call → from_metering wish ≡ 7
    unfolding accepted_tick
    meters calling = ap from_metering (sym (ap (λ (r : Ticked). r.decision.wish) answered) ∙ calling.metering)

    -- A bypass is kept on where no end comes,
    keeps_kept : kept c → Calling x c call → has_passed t c.state.group.lanes call.input.lanes.passage ≡ false → kept (onward c call)
    keeps_kept k calling passed =
        subst (λ (g : Group). g.bypass.kept ≡ true) (sym after_is)
        (stays_kept_on t good (some_lane c going k) call.input.calls wish (cycle_in x c.state call.input) call.input.lanes c.state.group going.good.group
        k calling.preemption (meters calling) calling.on calling.timeout passed)

    -- a green lane stays green,
    keeps_green : kept c → is_green c ≡ true → kept (onward c call) → is_green (onward c call) ≡ true
    keeps_green k green after =
        let some = some_lane c going k in
        eq-eqb _ 3 (ap (λ (g : Group). (priority_of t g.lanes).colour) after_is
        ∙ stays_served t good some call.input.calls wish (cycle_in x c.state call.input) call.input.lanes c.state.group going.good.group
        (subst (λ (g : Group). g.bypass.kept ≡ true) after_is after) (eqb-true c.state.group.interval 7 (going.good.group.bypass.in_metering k)) green)

    -- the tick says so,
    says : kept (onward c call) → is_green (onward c call) ≡ true → is_served x c call ≡ true
    unfolding is_served accepted_tick moved_in
    says k green =
        let runs : (answer_to c call).bypass ≡ Runs =
        ap (λ (r : Ticked). r.bypass) answered
        ∙ runs_is t moved.bypass moved.lanes (subst (λ (g : Group). g.bypass.kept ≡ true) after_is k)
        (subst (λ (g : Group). eqb (priority_of t g.lanes).colour 3 ≡ true) after_is green) in
        let lamp : get_or (answer_to c call).shown.colours (place_of t) 0 ≡ 3 = ap (λ (d : Indications). get_or d.colours (place_of t) 0) shown_after ∙ shows (onward c call) on k green in
        rw (runs, eq-eqb (get_or (answer_to c call).shown.colours (place_of t) 0) 3 lamp)
      where
        shown_after : (answer_to c call).shown ≡ (onward c call).shown
        shown_after = sym (shown_is c call e)

    -- and one that is not green yet is nearer.
    nearer : kept (onward c call) → is_green (onward c call) ≡ false
        → (served_in t (onward c call).state.group < served_in t c.state.group) × (served_in t c.state.group ≤ serving_ticks t)
    nearer k miss =
        let fall = served_falls t good (some_lane (onward c call) on k) call.input.calls wish (cycle_in x c.state call.input) call.input.lanes c.state.group going.good.group
        (subst (λ (g : Group). g.bypass.kept ≡ true) after_is k) (subst (λ (g : Group). eqb (priority_of t g.lanes).colour 3 ≡ false) after_is miss) in
        (subst (λ (g : Group). served_in t g < served_in t c.state.group) (sym after_is) fall.0, fall.1)

    -- What holds while it waits.
    not_yet : kept (onward c call) → is_served x c call ≡ false → is_green (onward c call) ≡ false
    not_yet k miss = by_test (is_green (onward c call)) (λ f. absurd (true≢false (sym (says k f) ∙ miss))) (λ f. f)

  abbrev Waiting : Course → Type 0
  Waiting c = Going x ok c × (kept c × (is_green c ≡ false))

  abbrev rank : Course → ℕ
  rank c = served_in t c.state.group - 1

  falls : (c : Course) (call : Call) → Waiting c → is_accepted c call ≡ true → (call.site ≡ x) × Calling x c call → is_served x c call ≡ false
      → Waiting (onward c call) × (rank (onward c call) < rank c)
  falls c call w e given miss =
      let going = w.0 in
      let k = keeps_kept c call going given.0 e w.1.0 given.1 (no_green t c.state.group.lanes call.input.lanes.passage w.1.1) in
      let yet = not_yet c call going given.0 e k miss in
      let some = some_served t good (some_lane c going w.1.0) (onward c call).state.group in
      ((on c call going given.0 e, (k, yet)), omega (arith, some, (nearer c call going given.0 e k yet).0))

  -- From the tick that begins it.
  served : (c : Course) (first : Call) (run : List Call) → Going x ok c → AtAccepted (λ c call. call.site ≡ x) c (first ∷ run) → is_accepted c first ≡ true → kept (onward c first)
      → AtAccepted (Calling x) (onward c first) run → (n : ℕ) → serving_ticks t ≡ suc n → suc n ≤ accepted_ticks c (first ∷ run) → served_within x (suc n) c (first ∷ run) ≡ true
  served c first run going same e k calling n bound long =
      by_test (is_served x c first)
      (λ hit. rw (e, hit))
      (λ miss. let site = same.0 e in
      let yet = not_yet c first going site e k miss in
      let near = nearer c first going site e k yet in
      let some = some_served t good (some_lane (onward c first) (on c first going site e) k) (onward c first).state.group in
      rw e (or_else (is_served x c first)
      (until onward is_accepted Waiting (λ c call. (call.site ≡ x) × Calling x c call) (is_served x) rank stays falls n (onward c first) run
      (on c first going site e, (k, yet)) (both_run onward is_accepted (λ c call. call.site ≡ x) (Calling x) (onward c first) run same.1 calling)
      (omega (arith, near, some, bound)) (one_less (rw e at long)))))

  -- What holds while it runs.
  keeping : (c : Course) (call : Call) → Going x ok c → (is_accepted c call ≡ true → (call.site ≡ x) × NoEnd x c call) → Going x ok (onward c call)
  keeping c call going given = keeps x ok c call going (λ e. (given e).0)

  runs_on : (c : Course) (call : Call) → Going x ok c → (is_accepted c call ≡ true → (call.site ≡ x) × NoEnd x c call)
      → kept c × (is_green c ≡ true) → kept (onward c call) × (is_green (onward c call) ≡ true)
  runs_on c call going given h =
      by_test (is_accepted c call)
      (λ e. let p = given e in
      let k = keeps_kept c call going p.0 e h.0 p.1.calling (no_passage t c.state.group.lanes call.input.lanes.passage p.1.passage) in
      (k, keeps_green c call going p.0 e h.0 h.1 k))
      (λ e. subst (λ (d : Course). kept d × (is_green d ≡ true)) (sym (stays c call e)) h)

pub bus_served : (x : Site) → BusServed x
unfolding BusServed begins_bypass onward
bus_served x ok before first run same begins calling long =
    let c = course_after (at_power_up x) before in
    let part = before_part x ok before (first ∷ run) same in
    let p = both_true (is_accepted c first) _ begins in
    let q = both_true (not c.state.group.bypass.kept) _ p.1 in
    let some = some_bound in
    let bound : serving_ticks (timings_of x) ≡ suc (serving_ticks (timings_of x) - 1) = omega (arith, some) in
    subst (λ (k : ℕ). served_within x k c (first ∷ run) ≡ true) (sym bound)
    (served x ok c first run part.0 part.1 p.0 q.1 calling (serving_ticks (timings_of x) - 1) bound (omega (arith, bound, long)))
  where
    some_bound : 1 ≤ serving_ticks (timings_of x)
    some_bound = some_ticks (timings_of x) (timings_good x ok)

pub bus_held : (x : Site) → BusHeld x
unfolding BusHeld
bus_held x ok before run same runs none =
    let t = timings_of x in
    let c = course_after (at_power_up x) before in
    let part = before_part x ok before run same in
    let given = both_run onward is_accepted (λ c call. call.site ≡ x) (NoEnd x) c run part.1 none in
    let going = reached onward is_accepted (Going x ok) (λ c call. (call.site ≡ x) × NoEnd x c call) (keeping x ok) c run part.0 given in
    let h = endures onward is_accepted (Going x ok) (λ c call. (call.site ≡ x) × NoEnd x c call) (keeping x ok)
    (λ c. (c.state.group.bypass.kept ≡ true) × (eqb (priority_of t c.state.group.lanes).colour 3 ≡ true)) (runs_on x ok) c run part.0 given
    (is_runs t c.state.group.bypass c.state.group.lanes runs) in
    let d = course_after c run in
    record { runs = runs_is t d.state.group.bypass d.state.group.lanes h.0 h.1; green = shows x ok d going h.0 h.1 }

-- What power-up and the tick promise over lists of ticks.
pub over_lists : (x : Site) → WaitingBound x × (PreemptionClears x × (BusServed x × BusHeld x))
over_lists x = (waiting_bound_lem x, (preemption_clears x, (bus_served x, bus_held x)))
