-- How long a bypass waits until the priority lane is green: a number that falls at each tick after which one is kept and the lane is not
-- green.
use Prim.Native.Nat.{ℕ, ◌+◌, ◌-◌, ◌≤◌, ◌<◌, max}
use mathlib.Core.Path.{◌≡◌, sym, ◌∙◌, ap, subst}
use mathlib.Core.Bool.{true, false, cond, true≢false}
use mathlib.Core.List.{List}
use native.Mathlib.Omega.{arith}
use borrow.Author.Tests.{eq-eqb, eqb-false, eqb-true, le-leb, leb-false, leb-true, lt-ltb, ne_eqb}
use lib.Dec.{leb, eqb}
use lib.ListN.{get_or}
use Rattle.loops.proofs.Cases.{by_test}
use Rattle.timings.specs.declared.Timings.{Timings}
use Rattle.site.proofs.TimingLaws.{TimingsGood}
use Rattle.inputs.specs.declared.Metered.{Metered}
use Rattle.inputs.specs.declared.Calls.{Calls}
use Rattle.wanted.specs.declared.wish.Wish.{Wish}
use Rattle.lanes.specs.declared.Lane.{Lane}
use Rattle.lanes.specs.declared.Lanes.{Lanes}
use Rattle.lanes.specs.declared.Endings.{Endings}
use Rattle.lanes.specs.declared.Ending.{Ending}
use Rattle.lanes.specs.declared.Ending.TheVariants.{Cut, Held, Now}
use Rattle.lanes.specs.Intervals.{green_at, lane_tick}
use Rattle.lanes.specs.Lanes.{lane_of, ending_of, lanes_tick, lanes_entered}
use Rattle.lanes.proofs.LaneLaws.{cut_within, now_within, lane_in, entered_in}
use Rattle.lanes.proofs.RedLaws.{red_in, red_falls, red_now}
use Rattle.lanes.proofs.MostLaws.{most_of, most_each, most_most}
use Rattle.release.specs.Release.{release_of}
use Rattle.release.proofs.ReleaseLaws.{none_released, lane_goes}
use Rattle.bypass.specs.declared.Bypass.{Bypass}
use Rattle.bypass.specs.Bypass.{later_of, is_time_up}
use Rattle.bypass.specs.Lanes.{place_of, priority_of, has_passed, released_for}
use Rattle.bypass.proofs.BypassLaws.{stays_kept, while_kept, endings_kept, is_due, released_for_lem, none_due_on_entry}
use Rattle.group.specs.declared.Group.{Group}
use Rattle.group.specs.Intervals.{age_of, time_of, from_metering, successor_of, next_interval}
use Rattle.group.specs.Group.{ordinary_interval, interval_of, bypass_in, lanes_in, lanes_moved, released_in, group_of, moved_with, moved_of}
use Rattle.group.proofs.IntervalLaws.{seven_is_own, lanes_cases}
use Rattle.group.proofs.PreemptionLaws.{steered}
use Rattle.group.proofs.RangeLaws.{LaneGood, LanesGood, GroupGood, lanes_keep, moved_bypass}
use Rattle.group.proofs.SearchLaws.{by_bypass}
use Rattle.serving.specs.Serving.{others_ticks, serving_ticks}

-- Ticks, the present one included, until lane i, unless it is the priority lane, is red, its green cut at the minimum.
other_in : Timings → Lanes → ℕ → ℕ
other_in t s i = cond (eqb t.priority (i + 1)) 0 (red_in t t.mingreen 0 (lane_of s i))

-- The same of all; and until the priority lane has been red its minimum.
others_in : Timings → Lanes → ℕ
others_in t s = most_of (other_in t s) t.lanes

own_in : Timings → Lanes → ℕ
own_in t s = red_in t 0 t.minred (priority_of t s)

lanes_in_ticks : Timings → Lanes → ℕ
lanes_in_ticks t s = max 1 (max (others_in t s) (own_in t s))

-- Ticks, the present one included, until the priority lane turns green; outside metering as many as the bound.
pub served_in : Timings → Group → ℕ
served_in t g = cond (eqb g.interval 7) (lanes_in_ticks t g.lanes) (serving_ticks t)

served_in_lem : (t : Timings) (g : Group) → g.interval ≡ 7 → served_in t g ≡ lanes_in_ticks t g.lanes
unfolding served_in
served_in_lem t g e = rw e

-- A lane that is not green does not look at the rule for greens.
same_tick : (t : Timings) (a b : Ending) (l : Lane) (passage : ℕ) → eqb l.colour 3 ≡ false → lane_tick t a l passage ≡ lane_tick t b l passage
unfolding lane_tick
same_tick t a b l passage e = rw e

held_green : (t : Timings) (l : Lane) (passage : ℕ) → eqb l.colour 3 ≡ true → (lane_tick t Held l passage).colour ≡ 3
unfolding lane_tick green_at
held_green t l passage e = rw e

entered_others : (t : Timings) → TimingsGood t → others_in t (lanes_entered t.lanes) ≤ 0
unfolding others_in other_in red_in
entered_others t ok =
    most_most (other_in t (lanes_entered t.lanes)) t.lanes 0
    (λ i h. by_test (eqb t.priority (i + 1))
    (λ e. rw e (omega arith)) (λ e. rw (e, entered_in t.lanes i (omega (arith, ok.lanes_most)) h) (omega arith)))

pub ticked : (t : Timings) (endings : Endings) (passage : List ℕ) (was now : ℕ) (s : Lanes) → was ≡ 7 → now ≡ 7 → lanes_in t endings passage was now s ≡ lanes_tick t endings s passage
unfolding lanes_in
ticked t endings passage was now s a b = rw (a, b)

-- Metering goes on where it is wished.
stays_metering : (t : Timings) (preemption : ℕ) (wish : Wish) (g : Group) → g.interval ≡ 7 → preemption ≡ 0 → from_metering wish ≡ 7 → interval_of t preemption wish g ≡ 7
unfolding ordinary_interval next_interval time_of successor_of
stays_metering t preemption wish g b none meters =
    (steered t preemption wish g).free (λ z. omega (arith, none, z)) ∙ rw (b, le-leb 0 (age_of g.age) (omega arith)) meters

module _ (t : Timings) (ok : TimingsGood t) (some : 1 ≤ t.priority) where
  pub some_served : (g : Group) → 1 ≤ served_in t g
  unfolding served_in lanes_in_ticks serving_ticks
  some_served g = by_test (eqb g.interval 7) (λ e. rw e (omega arith)) (λ e. rw e (omega (arith, ok.yellow_least)))

  abbrev place : ℕ
  place = t.priority - 1

  in_four : place < 4
  in_four = omega (arith, ok.priority_most, ok.lanes_most)

  in_site : place < t.lanes
  in_site = omega (arith, ok.priority_most)

  back : t.priority ≡ place + 1
  back = omega arith

  -- At the worst another lane has just been released, and the priority lane has just turned yellow.
  other_most : (s : Lanes) (i : ℕ) → i < t.lanes → other_in t s i ≤ others_ticks t
  unfolding other_in others_ticks red_in
  other_most s i h =
      by_test (eqb t.priority (i + 1))
      (λ e. rw e (omega arith))
      (λ e. let more : 1 < t.lanes = omega (arith, some, ok.priority_most, eqb-false t.priority (i + 1) e) in
      rw (lt-ltb 1 t.lanes more)
      (by_test (eqb (lane_of s i).colour 3)
      (λ f. rw (e, f) (omega (arith, ok.mingreen_least)))
      (λ f. by_test (eqb (lane_of s i).colour 2) (λ g. rw (e, f, g) (omega (arith, ok.yellow_least))) (λ g. rw (e, f, g) (omega arith)))))

  others_most : (s : Lanes) → others_in t s ≤ others_ticks t
  unfolding others_in
  others_most s = most_most (other_in t s) t.lanes _ (other_most s)

  own_most : (s : Lanes) → eqb (priority_of t s).colour 3 ≡ false → own_in t s ≤ t.yellow + t.minred
  unfolding own_in red_in
  own_most s e =
      by_test (eqb (priority_of t s).colour 2) (λ f. rw (e, f) (omega (arith, ok.yellow_least))) (λ f. rw (e, f) (omega arith))

  served_most : (s : Lanes) → eqb (priority_of t s).colour 3 ≡ false → lanes_in_ticks t s ≤ serving_ticks t
  unfolding lanes_in_ticks serving_ticks
  served_most s e = both (others_in t s) (own_in t s) _ _ (others_most s) (own_most s e) (omega (arith, ok.yellow_least))
    where
      both : (a b x y : ℕ) → a ≤ x → b ≤ y → 1 ≤ y → max 1 (max a b) ≤ max x y
      both a b x y p q r = omega arith

  -- A tick of a bypass that is kept.
  module _ (s : Lanes) (passage : List ℕ) (v : LanesGood true s t.lanes) where
    abbrev after : Lanes
    after = lanes_tick t (while_kept t) s passage

    pub own_after : priority_of t after ≡ lane_tick t Held (priority_of t s) (get_or passage place 0)
    unfolding priority_of place_of ending_of
    own_after = lane_in t (while_kept t) s passage place in_four in_site ∙ rw (eq-eqb t.priority (place + 1) back)

    pub other_after : (i : ℕ) → i < t.lanes → eqb t.priority (i + 1) ≡ false → lane_of after i ≡ lane_tick t Cut (lane_of s i) (get_or passage i 0)
    unfolding ending_of
    other_after i h e = lane_in t (while_kept t) s passage i (omega (arith, ok.lanes_most)) h ∙ rw e

    -- The priority lane stays green,
    pub stays_green : eqb (priority_of t s).colour 3 ≡ true → (priority_of t after).colour ≡ 3
    stays_green e = ap (λ (l : Lane). l.colour) own_after ∙ held_green t (priority_of t s) (get_or passage place 0) e

    -- or comes nearer, as do the others.
    own_falls : eqb (priority_of t s).colour 3 ≡ false → own_in t after ≤ own_in t s - 1
    unfolding own_in
    own_falls e =
        subst (λ (l : Lane). red_in t 0 t.minred l ≤ red_in t 0 t.minred (priority_of t s) - 1)
        (sym (own_after ∙ same_tick t Held Now (priority_of t s) (get_or passage place 0) e))
        (red_falls t Now 0 t.minred (now_within t 0) (omega arith) (omega (arith, ok.yellow_least)) (omega (arith, ok.yellow_most)) (omega (arith, ok.red_most))
        (priority_of t s) (get_or passage place 0))

    others_fall : others_in t after ≤ others_in t s - 1
    unfolding others_in other_in
    others_fall =
        most_most (other_in t after) t.lanes _
        (λ i h. by_test (eqb t.priority (i + 1))
        (λ e. rw e (omega arith))
        (λ e. let was : red_in t t.mingreen 0 (lane_of s i) ≤ most_of (other_in t s) t.lanes = rw e at (most_each (other_in t s) t.lanes i h) in
        rw (e, other_after i h e)
        (omega (
          arith,
          was,
          red_falls t Cut t.mingreen 0 (cut_within t) (omega (arith, ok.mingreen_most, ok.green_most)) (omega (arith, ok.yellow_least)) (omega (arith, ok.yellow_most)) (omega arith)
              (lane_of s i) (get_or passage i 0),
        ))))

    good : LanesGood true after t.lanes
    good = lanes_keep t (while_kept t) s passage v

    -- With nothing left to wait for, the lane is released.
    other_red : (i : ℕ) → i < t.lanes → others_in t after ≤ 0 → eqb t.priority (i + 1) ≡ false → (lane_of after i).colour ≡ 1
    unfolding others_in other_in
    other_red i l h e =
        let left : red_in t t.mingreen 0 (lane_of after i) ≤ most_of (other_in t after) t.lanes = rw e at (most_each (other_in t after) t.lanes i l) in
        let u = good.inside i (omega (arith, ok.lanes_most)) l in
        (red_now t t.mingreen 0 (lane_of after i) u.least u.most (omega (arith, left, h))).0

    own_good : LaneGood true (priority_of t after)
    unfolding priority_of place_of
    own_good = good.inside place in_four in_site

    due_now : others_in t after ≤ 0 → own_in t after ≤ 0 → released_for t after ≡ t.priority
    unfolding own_in
    due_now h k =
        let red = red_now t 0 t.minred (priority_of t after) own_good.least own_good.most k in
        is_due t after
        (record { others = λ i l other. other_red i l h (ne_eqb t.priority (i + 1) (λ z. other (sym z))); red = red.0; long = red.1 })

    released_green : eqb (released_for t after) 0 ≡ false → (priority_of t (release_of after (released_for t after))).colour ≡ 3
    unfolding priority_of place_of
    released_green e =
        ap (λ (l : Lane). l.colour)
        (lane_goes after (released_for t after) place in_four (eq-eqb (released_for t after) (place + 1) (released_for_lem t after e ∙ back)))

    -- So where the lane is not green after the tick, it was not before, and a tick less is left.
    nearer : eqb (priority_of t (release_of after (released_for t after))).colour 3 ≡ false
        → (lanes_in_ticks t (release_of after (released_for t after)) < lanes_in_ticks t s) × (lanes_in_ticks t s ≤ serving_ticks t)
    unfolding lanes_in_ticks
    nearer miss =
        by_test (eqb (released_for t after) 0)
        (λ e. let same = none_released after (released_for t after) e in
        let not-green : eqb (priority_of t s).colour 3 ≡ false =
        by_test (eqb (priority_of t s).colour 3)
        (λ f. absurd (true≢false (sym (eq-eqb _ 3 (ap (λ (q : Lanes). (priority_of t q).colour) same ∙ stays_green f)) ∙ miss))) (λ f. f) in
        (subst (λ (q : Lanes). lanes_in_ticks t q < lanes_in_ticks t s) (sym same) (falls e not-green), served_most s not-green))
        (λ e. absurd (true≢false (sym (eq-eqb _ 3 (released_green e)) ∙ miss)))
      where
        less : (a b x y : ℕ) → a ≤ x - 1 → b ≤ y - 1 → 1 < max x y → max 1 (max a b) < max 1 (max x y)
        less a b x y p q r = omega arith

        nothing : (a b x y : ℕ) → a ≤ x - 1 → b ≤ y - 1 → max x y ≤ 1 → (a ≤ 0) × (b ≤ 0)
        nothing a b x y p q r = (omega arith, omega arith)

        falls : eqb (released_for t after) 0 ≡ true → eqb (priority_of t s).colour 3 ≡ false → lanes_in_ticks t after < lanes_in_ticks t s
        falls e not-green =
            by_test (leb (max (others_in t s) (own_in t s)) 1)
            (λ f. let z = nothing _ _ _ _ others_fall (own_falls not-green) (leb-true _ 1 f) in
            absurd (omega (arith, some, due_now z.0 z.1, eqb-true (released_for t after) 0 e)))
            (λ f. less _ _ _ _ others_fall (own_falls not-green) (leb-false _ 1 f))

  -- On entering metering there is a minimum red to wait for.
  entered_ticks : lanes_in_ticks t (lanes_entered t.lanes) < serving_ticks t
  unfolding lanes_in_ticks serving_ticks own_in red_in priority_of place_of
  entered_ticks =
      rw (entered_in t.lanes place in_four in_site)
      (omega (arith, none_others, ok.red_least, ok.yellow_least))
    where
      none_others : others_in t (lanes_entered t.lanes) ≤ 0
      none_others = entered_others t ok

  -- A tick of the group after which a bypass is kept.
  module _ (calls : Calls) (wish : Wish) (cycle : ℕ) (samples : Metered) (g : Group) (v : GroupGood g t.lanes t.priority) where
    abbrev now : ℕ
    now = interval_of t calls.preemption wish g

    abbrev bypass : Bypass
    bypass = bypass_in t calls.bypass samples.passage now g

    abbrev Served : Lanes → Type 0
    Served s = eqb (priority_of t s).colour 3 ≡ false → (lanes_in_ticks t s < served_in t g) × (served_in t g ≤ serving_ticks t)

    served_outside : eqb g.interval 7 ≡ false → served_in t g ≡ serving_ticks t
    unfolding served_in
    served_outside e = rw e

    in_seven : g.interval ≡ 7 → let s : Lanes = lanes_tick t (while_kept t) g.lanes samples.passage in Served (release_of s (released_for t s))
    in_seven b miss =
        let n = nearer g.lanes samples.passage (rw b at v.lanes) miss in
        let same = sym (served_in_lem t g b) in
        let s = lanes_tick t (while_kept t) g.lanes samples.passage in
        (subst (λ (r : ℕ). lanes_in_ticks t (release_of s (released_for t s)) < r) same n.0, subst (λ (r : ℕ). r ≤ serving_ticks t) same n.1)

    entering : eqb g.interval 7 ≡ false → Served (release_of (lanes_entered t.lanes) (released_for t (lanes_entered t.lanes)))
    entering b miss =
        let none = none_due_on_entry t ok.priority_most ok.lanes_most (omega (arith, ok.red_least)) in
        let same = none_released (lanes_entered t.lanes) (released_for t (lanes_entered t.lanes)) (eq-eqb (released_for t (lanes_entered t.lanes)) 0 none) in
        (omega (arith, ap (lanes_in_ticks t) same, served_outside b, entered_ticks), omega (arith, served_outside b))

    moved_served : now ≡ 7 → let s : Lanes = lanes_in t (while_kept t) samples.passage g.interval now g.lanes in Served (release_of s (released_for t s))
    moved_served =
        lanes_cases t calls.preemption wish (while_kept t) samples.passage g v.interval (λ k s. k ≡ 7 → Served (release_of s (released_for t s)))
        (λ b _ _. in_seven b)
        (λ b _. entering b)
        (λ _ e. absurd (omega arith))
        (λ k _ o _ e. absurd (seven_is_own e o))

    -- The lanes before its release, and after it.
    abbrev unreleased : Lanes
    unreleased = lanes_in t (while_kept t) samples.passage g.interval now g.lanes

    pub lanes_after : bypass.kept ≡ true → (moved_of t calls wish cycle samples g).group.lanes ≡ release_of unreleased (released_for t unreleased)
    unfolding moved_of moved_with group_of lanes_moved
    lanes_after k =
        ap (λ e. let s : Lanes = lanes_in t e samples.passage g.interval now g.lanes in release_of s (released_in t bypass.kept cycle samples.demand now s)) (endings_kept t g.bypass bypass k)
        ∙ ap (release_of unreleased) (by_bypass t cycle samples.demand now unreleased bypass.kept k)

    -- The lane that it releases.
    pub release_after : bypass.kept ≡ true → (moved_of t calls wish cycle samples g).released ≡ released_for t unreleased
    unfolding moved_of moved_with group_of lanes_moved
    release_after k =
        ap (λ e. let s : Lanes = lanes_in t e samples.passage g.interval now g.lanes in released_in t bypass.kept cycle samples.demand now s) (endings_kept t g.bypass bypass k)
        ∙ by_bypass t cycle samples.demand now unreleased bypass.kept k

    -- Where it is kept and the lane is not green after the tick, a tick less is left, of no more than the bound.
    pub served_falls : (moved_of t calls wish cycle samples g).group.bypass.kept ≡ true
        → eqb (priority_of t (moved_of t calls wish cycle samples g).group.lanes).colour 3 ≡ false
        → (served_in t (moved_of t calls wish cycle samples g).group < served_in t g) × (served_in t g ≤ serving_ticks t)
    unfolding moved_of moved_with group_of
    served_falls k miss =
        let kept : bypass.kept ≡ true = k in
        let seven : now ≡ 7 = eqb-true now 7 ((moved_bypass t calls wish cycle samples g ok.lanes_least ok.priority_most v).in_metering kept) in
        let same = lanes_after kept in
        let r = moved_served seven (sym (ap (λ (q : Lanes). eqb (priority_of t q).colour 3) same) ∙ miss) in
        (subst (λ (r : ℕ). r < served_in t g) (sym (served_in_lem t (moved_of t calls wish cycle samples g).group seven ∙ ap (lanes_in_ticks t) same)) r.0, r.1)

    -- A green lane stays green.
    pub stays_served : (moved_of t calls wish cycle samples g).group.bypass.kept ≡ true → g.interval ≡ 7 → eqb (priority_of t g.lanes).colour 3 ≡ true
        → (priority_of t (moved_of t calls wish cycle samples g).group.lanes).colour ≡ 3
    unfolding moved_of moved_with group_of
    stays_served k b green =
        let kept : bypass.kept ≡ true = k in
        let seven : now ≡ 7 = eqb-true now 7 ((moved_bypass t calls wish cycle samples g ok.lanes_least ok.priority_most v).in_metering kept) in
        let s = lanes_tick t (while_kept t) g.lanes samples.passage in
        let good : LanesGood true g.lanes t.lanes = rw b at v.lanes in
        let same : lanes_in t (while_kept t) samples.passage g.interval now g.lanes ≡ s = ticked t (while_kept t) samples.passage g.interval now g.lanes b seven in
        ap (λ (q : Lanes). (priority_of t q).colour) (lanes_after kept ∙ ap (λ (q : Lanes). release_of q (released_for t q)) same)
        ∙ by_test (eqb (released_for t s) 0)
        (λ e. ap (λ (q : Lanes). (priority_of t q).colour) (none_released s (released_for t s) e) ∙ stays_green g.lanes samples.passage good green)
        (λ e. released_green g.lanes samples.passage good e)

    -- A bypass is kept on where no end comes.
    pub stays_kept_on : g.bypass.kept ≡ true → calls.preemption ≡ 0 → from_metering wish ≡ 7 → calls.bypass ≡ 1
        → is_time_up t.timeout (later_of g.bypass.timer) ≡ false → has_passed t g.lanes samples.passage ≡ false
        → (moved_of t calls wish cycle samples g).group.bypass.kept ≡ true
    unfolding moved_of moved_with group_of bypass_in
    stays_kept_on k none meters on time passed =
        let seven = stays_metering t calls.preemption wish g (eqb-true g.interval 7 (v.bypass.in_metering k)) none meters in
        stays_kept t (eqb now 7) calls.bypass (has_passed t g.lanes samples.passage) g.bypass k
        (record { not_passed = passed; on = on; not_up = time; in_metering = eq-eqb now 7 seven })
