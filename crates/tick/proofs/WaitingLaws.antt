-- The waiting bound: the group's rank falls at each accepted tick of a run that does not release the waiting lane, and a refused tick changes
-- nothing.
use Prim.Native.Nat.{ℕ, ◌+◌, ◌-◌, ◌≤◌, ◌<◌, max, min}
use mathlib.Core.Path.{◌≡◌, sym, ◌∙◌, ap, subst}
use mathlib.Core.Bool.{true, false, true≢false}
use native.Mathlib.Omega.{arith}
use native.Mathlib.Nat.{mul-le-mul_left}
use borrow.Author.Tests.{eq-eqb}
use lib.Dec.{eqb}
use lib.ListN.{get_or}
use Rattle.runs.proofs.RunLaws.{within}
use Rattle.site.specs.declared.Site.{Site}
use Rattle.site.specs.Record.{spoilt_site}
use Rattle.site.specs.Named.{timings_of, metered_lanes}
use Rattle.site.proofs.TimingLaws.{timings_good}
use Rattle.timings.specs.declared.Timings.{Timings}
use Rattle.loops.proofs.Cases.{by_test}
use Rattle.loops.proofs.EachLaws.{at_four}
use Rattle.rounding.proofs.UpLaws.{up_grows}
use Rattle.group.specs.declared.Group.{Group}
use Rattle.group.specs.declared.indication.Indications.{Indications}
use Rattle.group.specs.Indications.{lane_shown, indications_of}
use Rattle.group.proofs.RangeLaws.{GroupGood}
use Rattle.state.specs.declared.State.{State}
use Rattle.waiting.specs.Bound.{turn_ticks, waiting_bound}
use Rattle.waiting.proofs.LaneRank.{Sound}
use Rattle.waiting.proofs.GroupRank.{group_rank, group_rank_most, group_falls, shown_red, shown_green}
use Rattle.tick.specs.declared.Input.{Input}
use Rattle.tick.specs.declared.Ticked.{Ticked}
use Rattle.tick.specs.Tick.{decided_in, cycle_in, moved_in, accepted_tick}
use Rattle.tick.specs.Course.{Call, Course, at_power_up, answer_to, is_accepted, onward, course_after, AtAccepted}
use Rattle.tick.specs.Waiting.{Waits, green_begins, begins_within, WaitingBound}
use Rattle.tick.proofs.TickLaws.{cycle_in_lem, least_cycle}
use Rattle.tick.proofs.CourseLaws.{stays, sound, Going, before_part, passed, answer, keeps, group_is, released_is}

-- What lane j shows.
pub colours_at : (g : Group) (n j : ℕ) → j < 4 → get_or (indications_of g n).colours j 0 ≡ lane_shown g n j
unfolding indications_of
colours_at g n j h = at_four (lane_shown g n) j h

-- The bound grows with the cycle.
bound_grows : (t : Timings) → Sound t → (a b : ℕ) → a ≤ b → waiting_bound t a ≤ waiting_bound t b
unfolding waiting_bound turn_ticks
bound_grows t ok a b h =
    by_test (eqb t.mode 1)
    (λ m. rw m (both (mul-le-mul_left (t.lanes - 1) (up_grows t.lanes ok.least a b h))))
    (λ m. rw m (omega arith))
  where
    both : {x y : ℕ} → x ≤ y → max a (t.maxgreen + t.yellow + t.minred) + x ≤ max b (t.maxgreen + t.yellow + t.minred) + y
    both p = omega arith

module _ (x : Site) (ok : spoilt_site x ≡ false) where
  module _ (c : Course) (call : Call) (going : Going x ok c) (same : is_accepted c call ≡ true → call.site ≡ x) where
    module _ (most : ℕ) (j : ℕ) (hj : j < metered_lanes x) (w : is_accepted c call ≡ true → Waits (j + 1) most c call) where
      abbrev least : ℕ
      least = min most 720

      abbrev rank : Course → ℕ
      rank d = group_rank (timings_of x) least j d.state.group

      -- What the tick decides and does, by the rules.
      abbrev s : State
      s = c.state

      abbrev i : Input
      i = call.input

      in_site : j < (timings_of x).lanes
      in_site = hj

      cycle_small : (e : is_accepted c call ≡ true) → cycle_in x s i ≤ least
      unfolding accepted_tick
      cycle_small e =
          let asked : cycle_in x s i ≤ most = subst (λ (r : Ticked). r.cycle ≤ most) (answer x ok c call going same e) (w e).cycle in
          omega (arith, asked, cycle_in_lem x s i (passed x ok c call going same e))

      metering_after : is_accepted c call ≡ true → (moved_in x s i).group.interval ≡ 7
      unfolding accepted_tick
      metering_after e = subst (λ (r : Ticked). r.state.group.interval ≡ 7) (answer x ok c call going same e) (w e).metering

      none_after : is_accepted c call ≡ true → (moved_in x s i).group.bypass.kept ≡ false
      unfolding accepted_tick
      none_after e = subst (λ (r : Ticked). r.state.group.bypass.kept ≡ false) (answer x ok c call going same e) (w e).bypass

      demand_on : is_accepted c call ≡ true → get_or i.lanes.demand j 0 ≡ 1
      demand_on e = let back : j + 1 - 1 ≡ j = omega arith in rw back at (w e).demand

      -- A tick that does not release the lane brings it nearer;
      rank_falls : (e : is_accepted c call ≡ true) → eqb (moved_in x s i).released (j + 1) ≡ false → rank (onward c call) < rank c
      unfolding moved_in
      rank_falls e miss =
          rw (group_is x ok c call going same e)
          (group_falls (timings_of x) (sound x ok) least j in_site (timings_good x ok).priority_most i.calls (decided_in x s i).wish (cycle_in x s i) i.lanes s.group going.good.group going.chain
          (omega arith) (λ on. omega (arith, least_cycle x s i (passed x ok c call going same e) on)) (cycle_small e) (demand_on e) (metering_after e) (none_after e) miss)

      -- and at one that does, its green begins.
      begins : (e : is_accepted c call ≡ true) → eqb (moved_in x s i).released (j + 1) ≡ true → green_begins (j + 1) c call ≡ true
      unfolding green_begins accepted_tick moved_in
      begins e hit =
          let back : j + 1 - 1 ≡ j = omega arith in
          let place : j < 4 = omega (arith, (timings_good x ok).lanes_most) in
          let n = metered_lanes x in
          let g = (moved_in x s i).group in
          let before = shown_red (timings_of x) (sound x ok) least j in_site (timings_good x ok).priority_most i.calls (decided_in x s i).wish (cycle_in x s i) i.lanes s.group going.good.group going.chain (none_after e) hit in
          let after = shown_green (timings_of x) (sound x ok) least j in_site (timings_good x ok).priority_most i.calls (decided_in x s i).wish (cycle_in x s i) i.lanes s.group going.good.group going.chain (none_after e) hit in
          let red : get_or c.shown.colours j 0 ≡ 1 =
          ap (λ (d : Indications). get_or d.colours j 0) (going.lamps before.0) ∙ colours_at s.group n j place ∙ before.1 in
          let green : get_or (answer_to c call).shown.colours j 0 ≡ 3 =
          ap (λ (r : Ticked). get_or r.shown.colours j 0) (answer x ok c call going same e) ∙ colours_at g n j place ∙ after in
          rw (back, released_is x ok c call going same e, hit, eq-eqb (get_or (answer_to c call).shown.colours j 0) 3 green, eq-eqb (get_or c.shown.colours j 0) 1 red)

  -- A tick at which the lane waits and its green does not begin brings it nearer.
  module _ (most : ℕ) (j : ℕ) (hj : j < metered_lanes x) where
    abbrev rank_of : Course → ℕ
    rank_of c = group_rank (timings_of x) (min most 720) j c.state.group

    falls : (c : Course) (call : Call) → Going x ok c → is_accepted c call ≡ true → call.site ≡ x → Waits (j + 1) most c call
        → green_begins (j + 1) c call ≡ false → rank_of (onward c call) < rank_of c
    falls c call going e same waits none =
        by_test (eqb (moved_in x c.state call.input).released (j + 1))
        (λ hit. absurd (true≢false (sym (begins c call going (λ _. same) most j hj (λ _. waits) e hit) ∙ none)))
        (λ miss. rank_falls c call going (λ _. same) most j hj (λ _. waits) e miss)

pub waiting_bound_lem : (x : Site) → WaitingBound x
unfolding WaitingBound
waiting_bound_lem x ok before run same i most least in_site waiting long =
    let t = timings_of x in
    let c = course_after (at_power_up x) before in
    let part = before_part x ok before run same in
    let going = part.0 in
    let j = i - 1 in
    let place : i ≡ j + 1 = omega arith in
    let hj : j < metered_lanes x = omega arith in
    let low = group_rank_most t (sound x ok) (min most 720) j (lanes_are hj) _ c.state.group (good_group_of going.good.group) going.chain in
    subst (λ (k : ℕ). begins_within k (waiting_bound t most) c run ≡ true) (sym place)
    (within onward is_accepted (Going x ok) (λ c call. call.site ≡ x) (keeps x ok) (Waits (j + 1) most) (green_begins (j + 1)) (rank_of x ok most j hj) stays
    (falls x ok most j hj) (waiting_bound t most) c run going part.1
    (subst (λ (k : ℕ). AtAccepted (Waits k most) c run) place waiting)
    (omega (arith, low, bound_grows t (sound x ok) (min most 720) most (omega arith))) long)
  where
    lanes_are : {j : ℕ} → j < metered_lanes x → j < (timings_of x).lanes
    lanes_are h = h

    good_group_of : {g : Group} → GroupGood g (metered_lanes x) (timings_of x).priority → GroupGood g (timings_of x).lanes (timings_of x).priority
    good_group_of v = v
