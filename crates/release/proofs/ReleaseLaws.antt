-- What a release does to a lane, and what it tells of the lane that was released.
use Prim.Native.Nat.{ℕ, ◌+◌, ◌-◌, ◌≤◌, ◌<◌}
use mathlib.Core.Path.{◌≡◌, ◌∙◌}
use mathlib.Core.Bool.{true, false, true≢false}
use mathlib.Core.List.{List}
use native.Mathlib.Omega.{arith}
use borrow.Author.Tests.{leb-true, eqb-true, eqb-false, eq-eqb, ne_eqb, le-leb}
use lib.Dec.{leb, eqb}
use lib.ListN.{get_or}
use Rattle.timings.specs.declared.Timings.{Timings}
use Rattle.lanes.specs.declared.Lane.{Lane}
use Rattle.lanes.specs.declared.Lanes.{Lanes}
use Rattle.lanes.specs.Intervals.{lane, has_been_red}
use Rattle.lanes.specs.Lanes.{lane_of, lanes_of, lanes_entered}
use Rattle.loops.proofs.Cases.{by_test, both_true}
use Rattle.lanes.proofs.LaneLaws.{each_lane_lem, entered_in}
use Rattle.release.specs.Release.{is_ready, ready_at, may_release, released_of, green_if, release_of}
use Rattle.release.specs.Found.{Ready}
use Rattle.turns.proofs.TurnLaws.{first_in_lem, first_holds}

-- Lane i after the release of a lane, or of none.
lane_case : (s : Lanes) (k i : ℕ) → eqb k 0 ≡ false → i < 4 → lane_of (release_of s k) i ≡ green_if k (i + 1) (lane_of s i)
unfolding release_of
lane_case s k i e h = rw e (each_lane_lem (λ i. green_if k (i + 1) (lane_of s i)) 0 k i h)

module _ (s : Lanes) (k : ℕ) where
  pub none_released : eqb k 0 ≡ true → release_of s k ≡ s
  unfolding release_of
  none_released e = rw e

  -- The lane that is released turns green; another stays as it is.
  pub lane_goes : (i : ℕ) → i < 4 → eqb k (i + 1) ≡ true → lane_of (release_of s k) i ≡ lane 3 0 0 0
  unfolding green_if
  lane_goes i h e = lane_case s k i (ne_eqb k 0 (λ z. omega (arith, eqb-true k (i + 1) e))) h ∙ rw e

  pub lane_stays : (i : ℕ) → i < 4 → eqb k (i + 1) ≡ false → lane_of (release_of s k) i ≡ lane_of s i
  unfolding green_if
  lane_stays i h e = by_test (eqb k 0) (λ z. rw (none_released z)) (λ z. lane_case s k i z h ∙ rw e)

  pub last_released : eqb k 0 ≡ false → (release_of s k).last ≡ k
  unfolding release_of lanes_of
  last_released e = rw e

  pub offset_released : eqb k 0 ≡ false → (release_of s k).offset ≡ 0
  unfolding release_of lanes_of
  offset_released e = rw e

-- The test for a lane is what the words ask.
module _ (t : Timings) (cycle demand : ℕ) (l : Lane) where
  pub ready : is_ready t cycle demand l ≡ true → Ready t cycle demand l
  unfolding is_ready has_been_red
  ready e =
      let p = both_true (has_been_red t l) _ e in
      let q = both_true (eqb l.colour 1) (leb t.minred l.age) p.0 in
      let r = both_true (eqb demand 1) (leb cycle l.counter) p.1 in
      record {
        red = eqb-true l.colour 1 q.0;
        long = leb-true t.minred l.age q.1;
        wanted = eqb-true demand 1 r.0;
        cycled = leb-true cycle l.counter r.1;
      }

  pub is_ready_lem : Ready t cycle demand l → is_ready t cycle demand l ≡ true
  unfolding is_ready has_been_red
  is_ready_lem r = rw (eq-eqb _ _ r.red, le-leb _ _ r.long, eq-eqb _ _ r.wanted, le-leb _ _ r.cycled)

module _ (t : Timings) (cycle : ℕ) (demand : List ℕ) (s : Lanes) where
  pub released_in_lem : 1 ≤ t.lanes → released_of t cycle demand s ≤ t.lanes
  unfolding released_of
  released_in_lem h =
      by_test (may_release t cycle s) (λ e. rw e (first_in_lem (ready_at t cycle demand s) t.lanes s.last t.lanes h)) (λ e. rw e (omega arith))

  pub may_release_lem : eqb (released_of t cycle demand s) 0 ≡ false → may_release t cycle s ≡ true
  unfolding released_of
  may_release_lem h = by_test (may_release t cycle s) (λ e. e) (λ e. let y = rw e at h in absurd (true≢false y))

  pub none_found : may_release t cycle s ≡ false → released_of t cycle demand s ≡ 0
  unfolding released_of
  none_found e = rw e

  released_ready : eqb (released_of t cycle demand s) 0 ≡ false → ready_at t cycle demand s (released_of t cycle demand s) ≡ true
  unfolding released_of
  released_ready h =
      let e = may_release_lem h in
      rw e (first_holds (ready_at t cycle demand s) t.lanes s.last t.lanes (rw e at h))

  -- The released lane, as lane i counted from 0.
  pub released_lane : (i : ℕ) → eqb (released_of t cycle demand s) (i + 1) ≡ true → Ready t cycle (get_or demand i 0) (lane_of s i)
  unfolding ready_at
  released_lane i e =
      let q = eqb-true (released_of t cycle demand s) (i + 1) e in
      let back : i + 1 - 1 ≡ i = omega arith in
      let found = rw q at (released_ready (ne_eqb (released_of t cycle demand s) 0 (λ z. omega (arith, q)))) in
      ready t cycle (get_or demand i 0) (lane_of s i) (rw back at found)

-- On entering metering no lane has been red its minimum, so none is released.
pub none_on_entry : (t : Timings) (cycle : ℕ) (demand : List ℕ) → 1 ≤ t.lanes → t.lanes ≤ 4 → 1 ≤ t.minred
    → released_of t cycle demand (lanes_entered t.lanes) ≡ 0
none_on_entry t cycle demand least most red =
    let s = lanes_entered t.lanes in
    let k = released_of t cycle demand s in
    by_test (eqb k 0) (λ e. eqb-true k 0 e)
    (λ e. let some : 1 ≤ k = omega (arith, eqb-false k 0 e) in
    let back : k ≡ k - 1 + 1 = omega arith in
    let in_site = released_in_lem t cycle demand s least in
    let r = released_lane t cycle demand s (k - 1) (eq-eqb k (k - 1 + 1) back) in
    let long : t.minred ≤ 0 = rw (entered_in t.lanes (k - 1) (omega arith) (omega arith)) at r.long in
    absurd (omega arith))
