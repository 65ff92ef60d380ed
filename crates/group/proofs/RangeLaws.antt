-- What it tells of a group that it is in range, and that a tick keeps it so.
use Prim.Native.Nat.{ℕ, ◌+◌, ◌≤◌, ◌<◌}
use mathlib.Core.Path.{◌≡◌, refl, sym, ◌∙◌}
use mathlib.Core.Bool.{Bool, true, false, not, true≢false}
use mathlib.Core.List.{List}
use native.Mathlib.Omega.{arith}
use borrow.Author.Tests.{lt-ltb, le-ltb, ltb-true, ltb-false, eqb-true, eqb-false, eq-eqb, ne_eqb, not-false, not-true}
use lib.Dec.{ltb, eqb}
use lib.ListN.{get_or}
use Rattle.loops.specs.Any.{any_from}
use Rattle.loops.proofs.AnyLaws.{neither, none_of, any_of_none}
use Rattle.inputs.specs.declared.Metered.{Metered}
use Rattle.inputs.specs.declared.Calls.{Calls}
use Rattle.wanted.specs.declared.wish.Wish.{Wish}
use Rattle.timings.specs.declared.Timings.{Timings}
use Rattle.lanes.specs.declared.Lane.{Lane}
use Rattle.lanes.specs.declared.Lanes.{Lanes}
use Rattle.lanes.specs.declared.Ending.{Ending}
use Rattle.lanes.specs.declared.Endings.{Endings}
use Rattle.lanes.specs.Intervals.{lane, rise_of, lane_tick}
use Rattle.lanes.specs.Lanes.{lane_of, lanes_tick, lanes_entered}
use Rattle.loops.proofs.Cases.{by_test}
use Rattle.lanes.proofs.LaneLaws.{rise_min, passages_most, tick_cases, lane_in, lane_out, offset_ticked, last_ticked, entered_in, entered_out, offset_entered, last_entered}
use Rattle.release.specs.Release.{release_of}
use Rattle.release.proofs.ReleaseLaws.{none_released, lane_goes, lane_stays, last_released, offset_released, released_in_lem}
use Rattle.bypass.specs.declared.Bypass.{Bypass}
use Rattle.bypass.specs.Lanes.{has_passed, endings_of}
use Rattle.bypass.specs.Range.{bypass_spoilt}
use Rattle.bypass.proofs.BypassLaws.{BypassGood, bypass_good, good_bypass, bypass_keeps, released_most}
use Rattle.group.specs.declared.Group.{Group}
use Rattle.group.specs.Group.{all_red, interval_of, bypass_in, lanes_moved, released_in, group_of, moved_with, moved_of}
use Rattle.group.specs.Range.{colour_spoilt, lane_spoilt, lane_kept, lane_spoilt_at, lanes_spoilt, group_spoilt}
use Rattle.group.proofs.IntervalLaws.{is_own, age_most, lanes_cases}

-- A lane in range, in an interval in which lanes show their own colours or in another.
pub record LaneGood (own : Bool) (l : Lane) : Type 0 where
  pub age : l.age ≤ 720
  pub counter : l.counter ≤ 720
  pub passages : l.passages ≤ 3
  pub least : 1 ≤ l.colour
  pub most : l.colour ≤ 3
  pub red : own ≡ false → l.colour ≡ 1

colour_good : (interval colour : ℕ) → colour_spoilt interval colour ≡ false → (1 ≤ colour) × ((colour ≤ 3) × (is_own interval ≡ false → colour ≡ 1))
unfolding colour_spoilt
colour_good interval colour e =
    by_test (is_own interval)
    (λ o. let p = neither (ltb colour 1) (ltb 3 colour) (rw o at e) in
    (ltb-false colour 1 p.0, (ltb-false 3 colour p.1, λ z. absurd (true≢false (sym o ∙ z)))))
    (λ o. let q = eqb-true colour 1 (not-false (eqb colour 1) (rw o at e)) in
    (omega arith, (omega arith, λ z. q)))

good_colour : (interval colour : ℕ) → 1 ≤ colour → colour ≤ 3 → (is_own interval ≡ false → colour ≡ 1) → colour_spoilt interval colour ≡ false
unfolding colour_spoilt
good_colour interval colour a b c =
    by_test (is_own interval) (λ o. rw (o, le-ltb colour 1 a, le-ltb 3 colour b)) (λ o. rw (o, eq-eqb colour 1 (c o)))

module _ (interval : ℕ) (l : Lane) where
  lane_good : lane_spoilt interval l ≡ false → LaneGood (is_own interval) l
  unfolding lane_spoilt
  lane_good e =
      let p = neither (ltb 720 l.age) _ e in
      let q = neither (ltb 720 l.counter) _ p.1 in
      let r = neither (ltb 3 l.passages) _ q.1 in
      let c = colour_good interval l.colour r.1 in
      record {
        age = ltb-false 720 l.age p.0;
        counter = ltb-false 720 l.counter q.0;
        passages = ltb-false 3 l.passages r.0;
        least = c.0;
        most = c.1.0;
        red = c.1.1;
      }

  good_lane : LaneGood (is_own interval) l → lane_spoilt interval l ≡ false
  unfolding lane_spoilt
  good_lane g = rw (le-ltb _ _ g.age, le-ltb _ _ g.counter, le-ltb _ _ g.passages, good_colour interval l.colour g.least g.most g.red)

-- Nothing is kept of a lane that the site lacks.
none_kept : (s : Lanes) (i : ℕ) → lane_kept (lane_of s i) ≡ false → lane_of s i ≡ lane 0 0 0 0
unfolding lane_kept lane_of
none_kept s i e =
    let p = neither (ltb 0 (lane_of s i).colour) _ e in
    let q = neither (ltb 0 (lane_of s i).age) _ p.1 in
    let r = neither (ltb 0 (lane_of s i).counter) (ltb 0 (lane_of s i).passages) q.1 in
    let a : (lane_of s i).colour ≡ 0 = omega (arith, ltb-false 0 (lane_of s i).colour p.0) in
    let b : (lane_of s i).age ≡ 0 = omega (arith, ltb-false 0 (lane_of s i).age q.0) in
    let c : (lane_of s i).counter ≡ 0 = omega (arith, ltb-false 0 (lane_of s i).counter r.0) in
    let d : (lane_of s i).passages ≡ 0 = omega (arith, ltb-false 0 (lane_of s i).passages r.1) in
    rw (a, b, c, d)

kept_none : (l : Lane) → l ≡ lane 0 0 0 0 → lane_kept l ≡ false
unfolding lane_kept
kept_none l e = rw e

-- The lanes in range, at a site of n lanes.
pub record LanesGood (own : Bool) (s : Lanes) (n : ℕ) : Type 0 where
  pub offset : s.offset ≤ 720
  pub least : 1 ≤ s.last
  pub most : s.last ≤ n
  pub inside : (i : ℕ) → i < 4 → i < n → LaneGood own (lane_of s i)
  pub beyond : (i : ℕ) → i < 4 → n ≤ i → lane_of s i ≡ lane 0 0 0 0

module _ (interval : ℕ) (s : Lanes) (n : ℕ) where
  inside_at : (i : ℕ) → i < n → lane_spoilt_at interval s n i ≡ lane_spoilt interval (lane_of s i)
  unfolding lane_spoilt_at
  inside_at i h = rw (lt-ltb i n h)

  beyond_at : (i : ℕ) → n ≤ i → lane_spoilt_at interval s n i ≡ lane_kept (lane_of s i)
  unfolding lane_spoilt_at
  beyond_at i h = rw (le-ltb i n h)

  lanes_good : lanes_spoilt interval s n ≡ false → LanesGood (is_own interval) s n
  unfolding lanes_spoilt
  lanes_good e =
      let p = neither (ltb 720 s.offset) _ e in
      let q = neither (ltb s.last 1) _ p.1 in
      let r = neither (ltb n s.last) (any_from (lane_spoilt_at interval s n) 0 4) q.1 in
      let each = none_of (lane_spoilt_at interval s n) 0 4 r.1 in
      record {
        offset = ltb-false 720 s.offset p.0;
        least = ltb-false s.last 1 q.0;
        most = ltb-false n s.last r.0;
        inside = λ i h k. lane_good interval (lane_of s i) (sym (inside_at i k) ∙ each i (omega arith) (omega arith));
        beyond = λ i h k. none_kept s i (sym (beyond_at i k) ∙ each i (omega arith) (omega arith));
      }

  good_lanes : LanesGood (is_own interval) s n → lanes_spoilt interval s n ≡ false
  unfolding lanes_spoilt
  good_lanes g =
      rw (
        le-ltb _ _ g.offset,
        le-ltb _ _ g.least,
        le-ltb _ _ g.most,
        any_of_none (lane_spoilt_at interval s n) 0 4 (λ i l h. by_test (ltb i n)
            (λ e. let k = ltb-true i n e in inside_at i k ∙ good_lane interval (lane_of s i) (g.inside i (omega arith) k))
            (λ e. let k = ltb-false i n e in beyond_at i k ∙ kept_none (lane_of s i) (g.beyond i (omega arith) k))),
      )

-- The group in range, at a site of n lanes with this priority lane.
pub record GroupGood (g : Group) (n priority : ℕ) : Type 0 where
  pub interval : g.interval ≤ 9
  pub age : g.age ≤ 36000
  pub lanes : LanesGood (is_own g.interval) g.lanes n
  pub bypass : BypassGood (eqb g.interval 7) priority g.bypass

module _ (g : Group) (n priority : ℕ) where
  pub group_good : group_spoilt g n priority ≡ false → GroupGood g n priority
  unfolding group_spoilt
  group_good e =
      let p = neither (ltb 9 g.interval) _ e in
      let q = neither (ltb 36000 g.age) _ p.1 in
      let r = neither (lanes_spoilt g.interval g.lanes n) (bypass_spoilt (eqb g.interval 7) priority g.bypass) q.1 in
      record {
        interval = ltb-false 9 g.interval p.0;
        age = ltb-false 36000 g.age q.0;
        lanes = lanes_good g.interval g.lanes n r.0;
        bypass = bypass_good (eqb g.interval 7) priority g.bypass r.1;
      }

  pub good_group : GroupGood g n priority → group_spoilt g n priority ≡ false
  unfolding group_spoilt
  good_group v =
      rw (
        le-ltb _ _ v.interval,
        le-ltb _ _ v.age,
        good_lanes g.interval g.lanes n v.lanes,
        good_bypass (eqb g.interval 7) priority g.bypass v.bypass,
      )

-- A tick keeps a lane in range,
pub lane_keeps : (t : Timings) (ending : Ending) (l : Lane) (passage : ℕ) → LaneGood true l → LaneGood true (lane_tick t ending l passage)
lane_keeps t ending l passage v =
    let age : rise_of l.age ≤ 720 = omega (arith, rise_min l.age) in
    let counter : rise_of l.counter ≤ 720 = omega (arith, rise_min l.counter) in
    let passed = passages_most l.passages passage v.passages in
    tick_cases t ending l passage (LaneGood true)
    (λ c h. record { age = omega arith; counter = counter; passages = passed; least = omega arith; most = omega arith; red = λ z. absurd (true≢false z) })
    (λ c h. record { age = age; counter = counter; passages = passed; least = omega arith; most = omega arith; red = λ z. absurd (true≢false z) })
    (λ c h. record { age = omega arith; counter = counter; passages = v.passages; least = omega arith; most = omega arith; red = λ z. absurd (true≢false z) })
    (λ c h. record { age = age; counter = counter; passages = v.passages; least = omega arith; most = omega arith; red = λ z. absurd (true≢false z) })
    (λ c h. record { age = age; counter = counter; passages = v.passages; least = v.least; most = v.most; red = λ z. absurd (true≢false z) })

-- and so it does all lanes;
pub lanes_keep : (t : Timings) (e : Endings) (s : Lanes) (passage : List ℕ) → LanesGood true s t.lanes → LanesGood true (lanes_tick t e s passage) t.lanes
lanes_keep t e s passage v = record {
  offset = omega (arith, offset_ticked t e s passage, rise_min s.offset);
  least = omega (arith, last_ticked t e s passage, v.least);
  most = omega (arith, last_ticked t e s passage, v.most);
  inside = λ i h k. rw (lane_in t e s passage i h k) (lane_keeps t _ (lane_of s i) (get_or passage i 0) (v.inside i h k));
  beyond = λ i h k. lane_out t e s passage i h k ∙ v.beyond i h k;
}

-- metering is entered in range;
pub lanes_enter : (own : Bool) (n : ℕ) → 1 ≤ n → LanesGood own (lanes_entered n) n
lanes_enter own n h = record {
  offset = omega (arith, offset_entered n);
  least = omega (arith, last_entered n);
  most = omega (arith, last_entered n);
  inside = λ i l k. rw (entered_in n i l k)
      (record { age = omega arith; counter = omega arith; passages = omega arith; least = omega arith; most = omega arith; red = λ _. refl });
  beyond = λ i l k. entered_out n i l k;
}

-- lanes that all are red may stand in any interval;
pub all_red_lem : (s : Lanes) (n : ℕ) → all_red s n ≡ true → (i : ℕ) → i < n → (lane_of s i).colour ≡ 1
unfolding all_red
all_red_lem s n e i h =
    let none = not-true (any_from (λ i. not (eqb (lane_of s i).colour 1)) 0 n) e in
    eqb-true (lane_of s i).colour 1
    (not-false (eqb (lane_of s i).colour 1) (none_of (λ i. not (eqb (lane_of s i).colour 1)) 0 n none i (omega arith) (omega arith)))

lanes_rest : (before own : Bool) (s : Lanes) (n : ℕ) → (before ≡ true → all_red s n ≡ true) → LanesGood before s n → LanesGood own s n
lanes_rest before own s n r v = record {
  offset = v.offset;
  least = v.least;
  most = v.most;
  inside = λ i h k. let w = v.inside i h k in
      let red = by_test before (λ e. all_red_lem s n (r e) i k) (λ e. w.red e) in
      record { age = w.age; counter = w.counter; passages = w.passages; least = w.least; most = w.most; red = λ _. red };
  beyond = v.beyond;
}

-- and a release keeps them in range.
pub lanes_release : (s : Lanes) (n k : ℕ) → k ≤ n → LanesGood true s n → LanesGood true (release_of s k) n
lanes_release s n k h v =
    by_test (eqb k 0) (λ e. rw (none_released s k e) v)
    (λ e. record {
      offset = omega (arith, offset_released s k e);
      least = omega (arith, last_released s k e, eqb-false k 0 e);
      most = omega (arith, last_released s k e);
      inside = λ i l m. by_test (eqb k (i + 1))
          (λ f. rw (lane_goes s k i l f)
          (record { age = omega arith; counter = omega arith; passages = omega arith; least = omega arith; most = omega arith; red = λ z. absurd (true≢false z) }))
          (λ f. rw (lane_stays s k i l f) (v.inside i l m));
      beyond = λ i l m. lane_stays s k i l (ne_eqb k (i + 1) (λ z. omega arith)) ∙ v.beyond i l m;
    })

-- The group is in range after a tick. Only the site's lanes are asked of the timings.
module _ (t : Timings) (calls : Calls) (wish : Wish) (cycle : ℕ) (samples : Metered) (g : Group) (h : 1 ≤ t.lanes) (hp : t.priority ≤ t.lanes)
    (v : GroupGood g t.lanes t.priority) where
  -- The interval, the bypass and the lanes before a release.
  abbrev now : ℕ
  now = interval_of t calls.preemption wish g

  abbrev bypass : Bypass
  bypass = bypass_in t calls.bypass samples.passage now g

  abbrev endings : Endings
  endings = endings_of t g.bypass bypass

  pub moved_bypass : BypassGood (eqb now 7) t.priority bypass
  unfolding bypass_in
  moved_bypass = bypass_keeps t (eqb now 7) calls.bypass (has_passed t g.lanes samples.passage) g.bypass _ v.bypass

  pub moved_lanes : LanesGood (is_own now) (lanes_moved t now bypass samples g) t.lanes
  unfolding lanes_moved
  moved_lanes =
      lanes_cases t calls.preemption wish endings samples.passage g v.interval (λ k s. LanesGood (is_own k) s t.lanes)
      (λ b _. lanes_keep t endings g.lanes samples.passage (rw b at v.lanes))
      (λ _. lanes_enter true t.lanes h)
      (λ o. lanes_keep t endings g.lanes samples.passage (rw o at v.lanes))
      (λ k _ _ r. lanes_rest (is_own g.interval) (is_own k) g.lanes t.lanes r v.lanes)

  pub moved_interval : now ≤ 9
  moved_interval =
      lanes_cases t calls.preemption wish endings samples.passage g v.interval (λ k s. k ≤ 9) (λ _ _. omega arith) (λ _. omega arith) (λ _. omega arith) (λ k m _ _. m)

  released_in_site : (kept : Bool) (k : ℕ) (s : Lanes) → released_in t kept cycle samples.demand k s ≤ t.lanes
  unfolding released_in
  released_in_site true k s = omega (arith, released_most t s)
  released_in_site false k s = by_test (eqb k 7) (λ e. rw e (released_in_lem t cycle samples.demand s h)) (λ e. rw e (omega arith))

  pub none_outside : (kept : Bool) (k : ℕ) (s : Lanes) → (kept ≡ true → eqb k 7 ≡ true) → eqb k 7 ≡ false → released_in t kept cycle samples.demand k s ≡ 0
  unfolding released_in
  none_outside true k s m e = absurd (true≢false (sym (m refl) ∙ e))
  none_outside false k s m e = rw e

  with_release : (kept : Bool) (k : ℕ) (s : Lanes) → (kept ≡ true → eqb k 7 ≡ true) → LanesGood (is_own k) s t.lanes
      → LanesGood (is_own k) (release_of s (released_in t kept cycle samples.demand k s)) t.lanes
  with_release kept k s m w =
      by_test (eqb k 7)
      (λ e. let q = eqb-true k 7 e in
      rw q (lanes_release s t.lanes _ (released_in_site kept 7 s) (rw q at w)))
      (λ e. rw (none_outside kept k s m e, none_released s 0 refl) w)

  pub moved_released : (moved_of t calls wish cycle samples g).released ≤ t.lanes
  unfolding moved_of moved_with
  moved_released = released_in_site _ _ _

  new_age : (k : ℕ) (b : Bypass) (s : Lanes) → (group_of g k b s).age ≤ 36000
  unfolding group_of
  new_age k b s = by_test (eqb k g.interval) (λ e. rw e (age_most g.age)) (λ e. rw e (omega arith))

  pub moved_good : GroupGood (moved_of t calls wish cycle samples g).group t.lanes t.priority
  unfolding moved_of moved_with group_of
  moved_good = record {
    interval = moved_interval;
    age = new_age _ bypass g.lanes;
    lanes = with_release bypass.kept _ _ moved_bypass.in_metering moved_lanes;
    bypass = moved_bypass;
  }
