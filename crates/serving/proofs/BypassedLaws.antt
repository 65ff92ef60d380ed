-- A tick of the group does what the request's words say.
use Prim.Native.Nat.{ℕ, ◌+◌, ◌-◌, ◌*◌, ◌≤◌, ◌<◌, min}
use mathlib.Core.List.{List}
use mathlib.Core.Path.{◌≡◌, refl, sym, ◌∙◌, ap, subst}
use mathlib.Core.Bool.{Bool, true, false, cond, true≢false}
use native.Mathlib.Omega.{arith}
use borrow.Author.Tests.{le-leb, lt-leb, eqb-true, eqb-false, eq-eqb, ne_eqb}
use lib.Dec.{eqb}
use lib.ListN.{get_or}
use Rattle.loops.proofs.Cases.{by_test}
use Rattle.timings.specs.declared.Timings.{Timings}
use Rattle.site.proofs.TimingLaws.{TimingsGood}
use Rattle.inputs.specs.declared.Metered.{Metered}
use Rattle.inputs.specs.declared.Calls.{Calls}
use Rattle.wanted.specs.declared.wish.Wish.{Wish}
use Rattle.wanted.specs.declared.wish.Wish.TheVariants.{Dark, Green, Metering, Clear}
use Rattle.lanes.specs.declared.Lane.{Lane}
use Rattle.lanes.specs.declared.Lanes.{Lanes}
use Rattle.lanes.specs.declared.Endings.{Endings}
use Rattle.lanes.specs.declared.Ending.TheVariants.{Cut, Held, Now}
use Rattle.lanes.specs.Intervals.{rise_of, green_at, lane_tick}
use Rattle.lanes.specs.Lanes.{lane_of, ending_of, lanes_tick}
use Rattle.lanes.proofs.LaneLaws.{rise_min, tick_cases, lane_in, offset_ticked, last_ticked}
use Rattle.release.specs.Release.{released_of, release_of}
use Rattle.release.proofs.ReleaseLaws.{none_released, lane_goes, lane_stays, last_released, offset_released, released_lane}
use Rattle.bypass.specs.declared.Bypass.{Bypass}
use Rattle.bypass.specs.Bypass.{later_of, is_time_up, ends_at, kept_of, mark_of, timer_of, bypass_of}
use Rattle.bypass.specs.Lanes.{place_of, priority_of, has_passed, released_for}
use Rattle.bypass.proofs.BypassLaws.{later_min, BypassGood, kept_metering, kept_anew, is_kept, stays_kept, while_kept, at_the_end, with_none, endings_none, endings_ended, due, is_due, released_for_lem}
use Rattle.group.specs.declared.Group.{Group}
use Rattle.group.specs.Intervals.{age_of, time_of, from_metering, successor_of, next_interval}
use Rattle.group.specs.Preemption.{is_pre_metering, is_held, steered_wish}
use Rattle.group.specs.Group.{all_red, ordinary_interval, interval_of, bypass_in, lanes_in, lanes_moved, released_in, group_of, moved_with, moved_of}
use Rattle.group.proofs.IntervalLaws.{is_own, lanes_cases}
use Rattle.group.proofs.RangeLaws.{GroupGood, all_red_lem, moved_bypass}
use Rattle.group.proofs.SearchLaws.{by_search, entering}
use Rattle.serving.specs.Bypassed.{Kept, Older, Under, Alike, Bypassed}
use Rattle.serving.proofs.ServingRank.{ticked, other_after, own_after, stays_green, lanes_after, release_after}

-- What is not true is false.
refuted : (b : Bool) → (b ≡ true → ⊥) → b ≡ false
refuted true f = absurd (f refl)
refuted false f = refl

-- The bypass: begun, ended or gone on.
module _ (t : Timings) (metering : Bool) (call : ℕ) (passed : Bool) (b : Bypass) where
  abbrev after : Bypass
  after = bypass_of t metering call passed b

  time_up : t.timeout ≤ 255 → 1 ≤ t.timeout → 10 * t.timeout ≤ b.timer + 1 → is_time_up t.timeout (later_of b.timer) ≡ true
  unfolding is_time_up
  time_up few one h = rw (ne_eqb t.timeout 0 (λ z. omega arith), le-leb (10 * t.timeout) (later_of b.timer) (omega (arith, later_min b.timer)))

  not_up : (1 ≤ t.timeout → b.timer + 1 < 10 * t.timeout) → is_time_up t.timeout (later_of b.timer) ≡ false
  unfolding is_time_up
  not_up h =
      by_test (eqb t.timeout 0)
      (λ e. rw e)
      (λ e. rw (e, lt-leb (10 * t.timeout) (later_of b.timer) (omega (arith, later_min b.timer, h (omega (arith, eqb-false t.timeout 0 e))))))

  ended : b.kept ≡ true → ends_at t metering call passed b.timer ≡ true → after.kept ≡ false
  unfolding bypass_of kept_of
  ended k e = rw (k, e)

  by_passage : passed ≡ true → ends_at t metering call passed b.timer ≡ true
  unfolding ends_at
  by_passage e = rw e

  by_call : (call ≡ 1 → ⊥) → ends_at t metering call passed b.timer ≡ true
  unfolding ends_at
  by_call f = by_test passed (λ e. rw e) (λ e. rw (e, ne_eqb call 1 f))

  by_time : is_time_up t.timeout (later_of b.timer) ≡ true → ends_at t metering call passed b.timer ≡ true
  unfolding ends_at
  by_time u = by_test passed (λ e. rw e) (λ e. by_test (eqb call 1) (λ f. rw (e, f, u)) (λ f. rw (e, f)))

  marked : (kept : Bool) → call ≡ 1 → kept ≡ true → mark_of (eqb call 1) kept b ≡ true
  unfolding mark_of
  marked kept on k = by_test b.mark (λ e. rw (on, e)) (λ e. by_test b.kept (λ f. rw (on, e, f)) (λ f. rw (on, e, f, k)))

  stands : (kept : Bool) → call ≡ 1 → b.mark ≡ true → mark_of (eqb call 1) kept b ≡ true
  unfolding mark_of
  stands kept on e = rw (on, e)

  behind : (kept : Bool) → call ≡ 1 → b.kept ≡ true → mark_of (eqb call 1) kept b ≡ true
  unfolding mark_of
  behind kept on k = by_test b.mark (λ e. rw (on, e)) (λ e. rw (on, e, k))

  cleared : (kept : Bool) → (call ≡ 1 → ⊥) → mark_of (eqb call 1) kept b ≡ false
  unfolding mark_of
  cleared kept f = rw (ne_eqb call 1 f)

  unmarked : (kept : Bool) → b.mark ≡ false → b.kept ≡ false → kept ≡ false → mark_of (eqb call 1) kept b ≡ false
  unfolding mark_of
  unmarked kept e f k = by_test (eqb call 1) (λ q. rw (q, e, f, k)) (λ q. rw q)

  no_timer : (kept : Bool) → kept ≡ false → timer_of kept b ≡ 0
  unfolding timer_of
  no_timer kept k = rw k

  first_timer : (kept : Bool) → b.kept ≡ false → timer_of kept b ≡ 0
  unfolding timer_of
  first_timer true k = rw k
  first_timer false k = refl

  timer_rises : (kept : Bool) → kept ≡ true → b.kept ≡ true → timer_of kept b ≡ min (b.timer + 1) 2550
  unfolding timer_of
  timer_rises kept k e = rw (k, e) (later_min b.timer)

back : (t : Timings) → 1 ≤ t.priority → t.priority ≡ t.priority - 1 + 1
back t h = omega arith

-- Metering leads to metering or to closing, and there the lanes tick.
wish_own : (w : Wish) → is_own (from_metering w) ≡ true
wish_own Dark = refl
wish_own Green = refl
wish_own (Metering rate) = refl
wish_own Clear = refl

from_seven : (t : Timings) (preemption : ℕ) (wish : Wish) (g : Group) → g.interval ≡ 7 → is_own (interval_of t preemption wish g) ≡ true
unfolding interval_of is_held is_pre_metering ordinary_interval next_interval time_of successor_of
from_seven t preemption wish g b =
    by_test (eqb preemption 1)
    (λ e. rw (b, e, le-leb 0 (age_of g.age) (omega arith)) (wish_own (steered_wish preemption wish)))
    (λ e. rw (b, e, le-leb 0 (age_of g.age) (omega arith)) (wish_own (steered_wish preemption wish)))

own_ticked : (t : Timings) (endings : Endings) (passage : List ℕ) (was now : ℕ) (s : Lanes) → was ≡ 7 → is_own now ≡ true → lanes_in t endings passage was now s ≡ lanes_tick t endings s passage
unfolding lanes_in
own_ticked t endings passage was now s b e =
    by_test (eqb now 7) (λ f. rw (b, f)) (λ f. let eight : eqb now 8 ≡ true = rw f at e in rw (f, eight))

-- One lane at such a tick: a green that is cut, held or ended now, and one that has been red its minimum.
module _ (t : Timings) (l : Lane) (passage : ℕ) where
  cut_green : l.colour ≡ 3 → t.mingreen ≤ rise_of l.age → (lane_tick t Cut l passage).colour ≡ 2
  unfolding lane_tick green_at
  cut_green e h = rw (e, le-leb t.mingreen (rise_of l.age) h)

  young_green : l.colour ≡ 3 → rise_of l.age < t.mingreen → (lane_tick t Cut l passage).colour ≡ 3
  unfolding lane_tick green_at
  young_green e h = rw (e, lt-leb t.mingreen (rise_of l.age) h)

  ended_green : l.colour ≡ 3 → ((lane_tick t Now l passage).colour ≡ 2) × ((lane_tick t Now l passage).age ≡ 0)
  unfolding lane_tick green_at
  ended_green e = (rw e, rw e)

  older_green : l.colour ≡ 3 → Older passage l (lane_tick t Held l passage)
  unfolding lane_tick green_at
  older_green e = rw e (record { colour = refl; age = refl; counter = refl; passages = refl })

  still_red : l.colour ≡ 1 → ((lane_tick t Held l passage).colour ≡ 1) × ((lane_tick t Held l passage).age ≡ rise_of l.age)
  unfolding lane_tick
  still_red e = (rw e, rw e)

  was_red : 1 ≤ t.minred → (lane_tick t Held l passage).colour ≡ 1 → t.minred ≤ (lane_tick t Held l passage).age → (l.colour ≡ 1) × (t.minred ≤ l.age + 1)
  was_red one =
      tick_cases t Held l passage (λ m. m.colour ≡ 1 → t.minred ≤ m.age → (l.colour ≡ 1) × (t.minred ≤ l.age + 1))
      (λ c h e a. absurd (omega arith)) (λ c h e a. absurd (omega arith)) (λ c h e a. absurd (omega (arith, one)))
      (λ c h e a. absurd (omega arith)) (λ n3 n2 e a. (e, omega (arith, rise_min l.age, a)))

module _ (t : Timings) (ok : TimingsGood t) (calls : Calls) (wish : Wish) (cycle : ℕ) (samples : Metered) (g : Group) (v : GroupGood g t.lanes t.priority) where
  abbrev now : ℕ
  now = interval_of t calls.preemption wish g

  abbrev passing : Bool
  passing = has_passed t g.lanes samples.passage

  abbrev bypass : Bypass
  bypass = bypass_of t (eqb now 7) calls.bypass passing g.bypass

  -- The group after the tick.
  abbrev g' : Group
  g' = (moved_of t calls wish cycle samples g).group

  has_passed_lem : (priority_of t g.lanes).colour ≡ 3 → get_or samples.passage (place_of t) 0 ≡ 1 → passing ≡ true
  unfolding has_passed
  has_passed_lem a b = rw (a, b)

  not_passed : ((priority_of t g.lanes).colour ≡ 3 → get_or samples.passage (place_of t) 0 ≡ 1 → ⊥) → passing ≡ false
  unfolding has_passed
  not_passed f =
      by_test (eqb (priority_of t g.lanes).colour 3)
      (λ e. rw (e, ne_eqb (get_or samples.passage (place_of t) 0) 1 (λ z. f (eqb-true _ 3 e) z))) (λ e. rw e)

  kept_words : Kept t calls.bypass samples.passage g g'
  unfolding moved_of moved_with group_of bypass_in bypass_of priority_of place_of
  kept_words =
      let b = g.bypass in
      let call = calls.bypass in
      let m = eqb now 7 in
      let anew = kept_anew t m call passing b in
      record {
        begins = λ k u p on i. is_kept t m call passing b k (record { unmarked = u; some_lane = p; on = on; in_metering = eq-eqb now 7 i });
        uncalled = λ k f. refuted bypass.kept (λ z. f (anew k z).on);
        behind = λ k e. refuted bypass.kept (λ z. true≢false (sym e ∙ (anew k z).unmarked));
        no_lane = λ k e. refuted bypass.kept (λ z. omega (arith, e, (anew k z).some_lane));
        passed = λ k c p. ended t m call passing b k (by_passage t m call passing b (has_passed_lem c p));
        gone = λ k f. ended t m call passing b k (by_call t m call passing b f);
        timeout = λ k one h. ended t m call passing b k (by_time t m call passing b (time_up t m call passing b ok.timeout_most one h));
        closing = λ f. refuted bypass.kept (λ z. f (eqb-true now 7 (kept_metering t m call passing b z)));
        goes_on = λ k f on h i. stays_kept t m call passing b k
            (record { not_passed = not_passed f; on = on; not_up = not_up t m call passing b h; in_metering = eq-eqb now 7 i });
        marked = λ on k. marked t m call passing b bypass.kept on k;
        stands = λ on e. stands t m call passing b bypass.kept on e;
        after = λ on k. behind t m call passing b bypass.kept on k;
        cleared = λ f. cleared t m call passing b bypass.kept f;
        unmarked = λ e f k. unmarked t m call passing b bypass.kept e f k;
        none = λ k. no_timer t m call passing b bypass.kept k;
        first = λ k. first_timer t m call passing b bypass.kept k;
        rises = λ k z. timer_rises t m call passing b bypass.kept z k;
      }

  module _ (k : g'.bypass.kept ≡ true) where
    -- The lanes before a release, and those of a tick that begins in metering.
    abbrev s : Lanes
    s = lanes_in t (while_kept t) samples.passage g.interval now g.lanes

    abbrev u : Lanes
    u = lanes_tick t (while_kept t) g.lanes samples.passage

    in_range : BypassGood (eqb now 7) t.priority g'.bypass
    unfolding moved_of moved_with group_of
    in_range = moved_bypass t calls wish cycle samples g ok.lanes_least ok.priority_most v

    some : 1 ≤ t.priority
    some = in_range.some_lane k

    seven : now ≡ 7
    seven = eqb-true now 7 (in_range.in_metering k)

    place_four : t.priority - 1 < 4
    place_four = omega (arith, some, ok.priority_most, ok.lanes_most)

    lanes_are : g'.lanes ≡ release_of s (released_for t s)
    unfolding moved_of moved_with group_of
    lanes_are = lanes_after t ok some calls wish cycle samples g v k

    released_are : (moved_of t calls wish cycle samples g).released ≡ released_for t s
    unfolding moved_of moved_with group_of
    released_are = release_after t ok some calls wish cycle samples g v k

    ticked_are : g.interval ≡ 7 → s ≡ u
    ticked_are b = ticked t (while_kept t) samples.passage g.interval now g.lanes b seven

    -- Another lane is not touched by the release,
    other_stays : (i : ℕ) → i < t.lanes → (i + 1 ≡ t.priority → ⊥) → lane_of g'.lanes i ≡ lane_of s i
    other_stays i h f =
        ap (λ (q : Lanes). lane_of q i) lanes_are
        ∙ lane_stays s (released_for t s) i (omega (arith, ok.lanes_most)) (other_released_lem (released_for t s) (λ e. released_for_lem t s e))
      where
        other_released_lem : (r : ℕ) → (eqb r 0 ≡ false → r ≡ t.priority) → eqb r (i + 1) ≡ false
        other_released_lem r is =
            by_test (eqb r 0)
            (λ e. ne_eqb r (i + 1) (λ z. omega (arith, eqb-true r 0 e, z)))
            (λ e. ne_eqb r (i + 1) (λ z. f (sym z ∙ is e)))

    -- and is cut at such a tick.
    other_ticks : g.interval ≡ 7 → (i : ℕ) → i < t.lanes → (i + 1 ≡ t.priority → ⊥) → lane_of g'.lanes i ≡ lane_tick t Cut (lane_of g.lanes i) (get_or samples.passage i 0)
    other_ticks b i h f =
        other_stays i h f ∙ ap (λ (q : Lanes). lane_of q i) (ticked_are b)
        ∙ other_after t ok some g.lanes samples.passage (rw b at v.lanes) i h (ne_eqb t.priority (i + 1) (λ z. f (sym z)))

    own_ticks : g.interval ≡ 7 → priority_of t s ≡ lane_tick t Held (priority_of t g.lanes) (get_or samples.passage (t.priority - 1) 0)
    own_ticks b = ap (priority_of t) (ticked_are b) ∙ own_after t ok some g.lanes samples.passage (rw b at v.lanes)

    not_zero : released_for t s ≡ t.priority → eqb (released_for t s) 0 ≡ false
    not_zero e = ne_eqb (released_for t s) 0 (λ z. omega (arith, some, e, z))

    -- The release.
    due_when : g.interval ≡ 7 → ((i : ℕ) → i < t.lanes → (i + 1 ≡ t.priority → ⊥) → (lane_of g'.lanes i).colour ≡ 1)
        → (priority_of t g.lanes).colour ≡ 1 → t.minred ≤ (priority_of t g.lanes).age + 1 → released_for t s ≡ t.priority
    due_when b red c a =
        let r = still_red t (priority_of t g.lanes) (get_or samples.passage (t.priority - 1) 0) c in
        let own = own_ticks b in
        let age : (priority_of t s).age ≡ rise_of (priority_of t g.lanes).age = ap (λ (l : Lane). l.age) own ∙ r.1 in
        is_due t s
        (record {
          others = λ i h other. sym (ap (λ (l : Lane). l.colour) (other_stays i h other)) ∙ red i h other;
          red = ap (λ (l : Lane). l.colour) own ∙ r.0;
          long = omega (arith, age, a, rise_min (priority_of t g.lanes).age, ok.red_most);
        })

    found : g.interval ≡ 7 → (priority_of t g.lanes).colour ≡ 3 → eqb (released_for t s) 0 ≡ true
    found b green =
        by_test (eqb (released_for t s) 0) (λ e. e)
        (λ e. let red = (due t s e).red in
        let still = ap (λ (q : Lanes). (priority_of t q).colour) (ticked_are b) ∙ stays_green t ok some g.lanes samples.passage (rw b at v.lanes) (eq-eqb (priority_of t g.lanes).colour 3 green) in
        absurd (omega (arith, red, still)))

    older : (l : Lane) (passage : ℕ) (l' : Lane) → l' ≡ lane_tick t Held l passage → l.colour ≡ 3 → Older passage l l'
    older l passage l' e c = subst (Older passage l) (sym e) (older_green t l passage c)

    none_entering : (g.interval ≡ 7 → ⊥) → (moved_of t calls wish cycle samples g).released ≡ 0
    unfolding moved_of moved_with
    none_entering f =
        entering t calls wish cycle samples g ok.lanes_least ok.priority_most ok.lanes_most (omega (arith, ok.red_least)) v f seven

    under_words : Under t samples.passage g g' (moved_of t calls wish cycle samples g).released
    unfolding priority_of place_of
    under_words =
        let r = released_for t s in
        record {
          stops = λ f. released_are ∙ by_test (eqb r 0) (λ e. eqb-true r 0 e) (λ e. absurd (f (released_are ∙ released_for_lem t s e)));
          enters = none_entering;
          lanes = λ b. lanes_are ∙ ap (λ (w : Lanes). release_of w r) (ticked_are b) ∙ ap (release_of u) (sym released_are);
          cut = λ b i h f c a. ap (λ (l : Lane). l.colour) (other_ticks b i h f)
              ∙ cut_green t (lane_of g.lanes i) (get_or samples.passage i 0) c (omega (arith, a, rise_min (lane_of g.lanes i).age, ok.mingreen_most, ok.green_most));
          young = λ b i h f c a. ap (λ (l : Lane). l.colour) (other_ticks b i h f)
              ∙ young_green t (lane_of g.lanes i) (get_or samples.passage i 0) c (omega (arith, a, rise_min (lane_of g.lanes i).age));
          release = λ b red c a. released_are ∙ due_when b red c a;
          only = λ b e. let d = due t s (not_zero (sym released_are ∙ e)) in
              let own = own_ticks b in (
                (λ i h f. ap (λ (l : Lane). l.colour) (other_stays i h f) ∙ d.others i h f),
                was_red t (priority_of t g.lanes) (get_or samples.passage (t.priority - 1) 0) (omega (arith, ok.red_least))
                    (sym (ap (λ (l : Lane). l.colour) own) ∙ d.red) (subst (λ (l : Lane). t.minred ≤ l.age) own d.long),
              );
          served = λ e. let q = sym released_are ∙ e in
              let z = not_zero q in (
                ap (λ (w : Lanes). lane_of w (t.priority - 1)) lanes_are
                    ∙ lane_goes s r (t.priority - 1) place_four (eq-eqb r (t.priority - 1 + 1) (q ∙ back t some)),
                (ap (λ (w : Lanes). w.offset) lanes_are ∙ offset_released s r z, ap (λ (w : Lanes). w.last) lanes_are ∙ last_released s r z ∙ q),
              );
          green = λ b c. older (priority_of t g.lanes) (get_or samples.passage (t.priority - 1) 0) _
              (ap (priority_of t) (lanes_are ∙ none_released s r (found b c)) ∙ own_ticks b) c;
          not_anew = λ b c. let z = found b c in
              let same = lanes_are ∙ none_released s r z ∙ ticked_are b in (
                released_are ∙ eqb-true r 0 z,
                (
                  ap (λ (w : Lanes). w.offset) same ∙ offset_ticked t (while_kept t) g.lanes samples.passage,
                  ap (λ (w : Lanes). w.last) same ∙ last_ticked t (while_kept t) g.lanes samples.passage,
                ),
              );
        }

  -- The tick of the end: the priority lane's green ends now, and the search does not find it.
  module _ (k : g.bypass.kept ≡ true) (none : g'.bypass.kept ≡ false) (green : (priority_of t g.lanes).colour ≡ 3) where
    abbrev yellow : Lane
    yellow = lane_tick t Now (priority_of t g.lanes) (get_or samples.passage (t.priority - 1) 0)

    began : g.interval ≡ 7
    began = eqb-true g.interval 7 (v.bypass.in_metering k)

    first_lane : 1 ≤ t.priority
    first_lane = v.bypass.some_lane k

    own_place : (t.priority - 1 < 4) × (t.priority - 1 < t.lanes)
    own_place = (omega (arith, first_lane, ok.priority_most, ok.lanes_most), omega (arith, first_lane, ok.priority_most))

    own_ended : priority_of t (lanes_tick t (at_the_end t) g.lanes samples.passage) ≡ yellow
    unfolding priority_of place_of ending_of
    own_ended = lane_in t (at_the_end t) g.lanes samples.passage (t.priority - 1) own_place.0 own_place.1 ∙ rw (eq-eqb t.priority (t.priority - 1 + 1) (back t first_lane))

    not_found : let q : Lanes = lanes_tick t (at_the_end t) g.lanes samples.passage in priority_of t (release_of q (released_of t cycle samples.demand q)) ≡ yellow
    unfolding priority_of place_of
    not_found =
        let q = lanes_tick t (at_the_end t) g.lanes samples.passage in
        let r = released_of t cycle samples.demand q in
        by_test (eqb r (t.priority - 1 + 1))
        (λ e. let red = (released_lane t cycle samples.demand q (t.priority - 1) e).red in
        absurd (omega (arith, own_colour red, ended_green t (priority_of t g.lanes) (get_or samples.passage (t.priority - 1) 0) green)))
        (λ e. own_is (release_of q r) (lane_stays q r (t.priority - 1) own_place.0 e))
      where
        own_colour : (lane_of (lanes_tick t (at_the_end t) g.lanes samples.passage) (t.priority - 1)).colour ≡ 1 → yellow.colour ≡ 1
        own_colour red = sym (ap (λ (l : Lane). l.colour) own_ended) ∙ red

        own_is : (w : Lanes) → lane_of w (t.priority - 1) ≡ lane_of (lanes_tick t (at_the_end t) g.lanes samples.passage) (t.priority - 1) → priority_of t w ≡ yellow
        own_is w e = e ∙ own_ended

    ended_own : priority_of t g'.lanes ≡ yellow
    unfolding moved_of moved_with group_of lanes_moved released_in priority_of place_of
    ended_own =
        ap (λ e. let q : Lanes = lanes_in t e samples.passage g.interval now g.lanes in
        priority_of t (release_of q (released_in t (bypass_in t calls.bypass samples.passage now g).kept cycle samples.demand now q)))
        (endings_ended t g.bypass (bypass_in t calls.bypass samples.passage now g) k none)
        ∙ ap (λ b. let q : Lanes = lanes_in t (at_the_end t) samples.passage g.interval now g.lanes in priority_of t (release_of q (released_in t b cycle samples.demand now q))) none
        ∙ lanes_cases t calls.preemption wish (at_the_end t) samples.passage g v.interval
        (λ i q. priority_of t (release_of q (released_in t false cycle samples.demand i q)) ≡ yellow)
        (λ _ _. not_found)
        (λ b. absurd (true≢false (sym (eq-eqb g.interval 7 began) ∙ b)))
        (λ _. ap (priority_of t) (none_released _ 0 refl) ∙ own_ended)
        (λ i _ _ r. absurd (not_all_red (r (own_interval began))))
      where
        own_interval : {i : ℕ} → i ≡ 7 → is_own i ≡ true
        own_interval e = rw e

        red_place : (lane_of g.lanes (t.priority - 1)).colour ≡ 1 → (priority_of t g.lanes).colour ≡ 1
        red_place e = e

        not_all_red : all_red g.lanes t.lanes ≡ true → ⊥
        not_all_red e = omega (arith, red_place (all_red_lem g.lanes t.lanes e (t.priority - 1) own_place.1), green)

  end_lane : g.bypass.kept ≡ true → g'.bypass.kept ≡ false → (priority_of t g.lanes).colour ≡ 3
      → ((priority_of t g'.lanes).colour ≡ 2) × ((priority_of t g'.lanes).age ≡ 0)
  end_lane k none green =
      let own = ended_own k none green in
      let e = ended_green t (priority_of t g.lanes) (get_or samples.passage (t.priority - 1) 0) green in
      (ap (λ (l : Lane). l.colour) own ∙ e.0, ap (λ (l : Lane). l.age) own ∙ e.1)

  -- The lanes at the tick of the end, before any release: metering leads to metering or to closing.
  module _ (k : g.bypass.kept ≡ true) (none : g'.bypass.kept ≡ false) where
    abbrev q : Lanes
    q = lanes_tick t (at_the_end t) g.lanes samples.passage

    from_metering_lem : g.interval ≡ 7
    from_metering_lem = eqb-true g.interval 7 (v.bypass.in_metering k)

    before_release_lem : lanes_in t (at_the_end t) samples.passage g.interval now g.lanes ≡ q
    before_release_lem = own_ticked t (at_the_end t) samples.passage g.interval now g.lanes from_metering_lem (from_seven t calls.preemption wish g from_metering_lem)

    resumed : ((moved_of t calls wish cycle samples g).released ≡ cond (eqb now 7) (released_of t cycle samples.demand q) 0)
        × (g'.lanes ≡ release_of q (moved_of t calls wish cycle samples g).released)
    unfolding moved_of moved_with group_of lanes_moved
    resumed =
        let b = bypass_in t calls.bypass samples.passage now g in
        let same = ap (λ e. lanes_in t e samples.passage g.interval now g.lanes) (endings_ended t g.bypass b k none) ∙ before_release_lem in (
          ap (λ (w : Lanes). released_in t b.kept cycle samples.demand now w) same ∙ by_search t cycle samples.demand now q b.kept none,
          ap (λ (w : Lanes). release_of w (released_in t b.kept cycle samples.demand now (lanes_moved t now b samples g))) same,
        )

  -- With no bypass kept before and after, the call does not matter.
  abbrev under_call : ℕ → Calls
  under_call call = record { preemption = calls.preemption; bypass = call }

  abbrev plain : Lanes
  plain = lanes_in t (with_none t) samples.passage g.interval now g.lanes

  plain_tick : (call : ℕ) → g.bypass.kept ≡ false → (moved_of t (under_call call) wish cycle samples g).group.bypass.kept ≡ false
      → ((moved_of t (under_call call) wish cycle samples g).group.lanes ≡ release_of plain (released_in t false cycle samples.demand now plain))
      × ((moved_of t (under_call call) wish cycle samples g).released ≡ released_in t false cycle samples.demand now plain)
  unfolding moved_of moved_with group_of lanes_moved
  plain_tick call k none =
      let b = bypass_in t call samples.passage now g in
      let same = ap (λ e. lanes_in t e samples.passage g.interval now g.lanes) (endings_none t g.bypass b k none) in (
        ap (λ (w : Lanes). release_of w (released_in t b.kept cycle samples.demand now w)) same ∙ ap (λ x. release_of plain (released_in t x cycle samples.demand now plain)) none,
        ap (λ (w : Lanes). released_in t b.kept cycle samples.demand now w) same ∙ ap (λ x. released_in t x cycle samples.demand now plain) none,
      )

  no_call : g.bypass.kept ≡ false → (moved_of t (under_call 0) wish cycle samples g).group.bypass.kept ≡ false
  unfolding moved_of moved_with group_of bypass_in
  no_call k = refuted _ (λ z. omega (arith, (kept_anew t (eqb now 7) 0 passing g.bypass k z).on))

  same_interval : (moved_of t calls wish cycle samples g).group.interval ≡ (moved_of t (under_call 0) wish cycle samples g).group.interval
  unfolding moved_of moved_with group_of
  same_interval = refl

  same_age : (moved_of t calls wish cycle samples g).group.age ≡ (moved_of t (under_call 0) wish cycle samples g).group.age
  unfolding moved_of moved_with group_of
  same_age = refl

  resumed_words : g.bypass.kept ≡ true → g'.bypass.kept ≡ false
      → ((moved_of t calls wish cycle samples g).released ≡ cond (eqb g'.interval 7) (released_of t cycle samples.demand (lanes_tick t (at_the_end t) g.lanes samples.passage)) 0)
      × (g'.lanes ≡ release_of (lanes_tick t (at_the_end t) g.lanes samples.passage) (moved_of t calls wish cycle samples g).released)
  unfolding moved_of moved_with group_of
  resumed_words = resumed

  does_nothing : g.bypass.kept ≡ false → g'.bypass.kept ≡ false → Alike (moved_of t calls wish cycle samples g) (moved_of t (under_call 0) wish cycle samples g)
  does_nothing k none =
      let a = plain_tick calls.bypass k none in
      let b = plain_tick 0 k (no_call k) in
      record { interval = same_interval; age = same_age; lanes = a.0 ∙ sym b.0; released = a.1 ∙ sym b.1 }

  pub bypassed : Bypassed t calls wish cycle samples g (moved_of t calls wish cycle samples g)
  unfolding priority_of place_of
  bypassed = record { kept = kept_words; under = under_words; end = end_lane; resumes = resumed_words; nothing = does_nothing }
