-- The rank of the whole group: it falls at each tick that ends in metering with no bypass kept and does not release the waiting lane. And
-- what the lamps show at its release, and showed before.
use Prim.Native.Nat.{ℕ, ◌+◌, ◌-◌, ◌≤◌, ◌<◌, max}
use mathlib.Core.Path.{◌≡◌, sym, ◌∙◌, ap, subst}
use mathlib.Core.Bool.{Bool, true, false, cond, true≢false}
use mathlib.Core.List.{List}
use native.Mathlib.Omega.{arith}
use borrow.Author.Tests.{eqb-true, lt-ltb}
use lib.Dec.{eqb}
use lib.ListN.{get_or}
use Rattle.inputs.specs.declared.Metered.{Metered}
use Rattle.inputs.specs.declared.Calls.{Calls}
use Rattle.wanted.specs.declared.wish.Wish.{Wish}
use Rattle.timings.specs.declared.Timings.{Timings}
use Rattle.lanes.specs.declared.Lanes.{Lanes}
use Rattle.lanes.specs.declared.Endings.{Endings}
use Rattle.lanes.specs.Intervals.{lane}
use Rattle.lanes.specs.Lanes.{lane_of, lanes_tick, lanes_entered}
use Rattle.loops.proofs.Cases.{by_test}
use Rattle.lanes.proofs.LaneLaws.{lane_in, entered_in}
use Rattle.lanes.proofs.RedLaws.{red_in}
use Rattle.release.specs.Release.{released_of, release_of}
use Rattle.release.proofs.ReleaseLaws.{lane_goes, lane_stays, released_in_lem, released_lane, none_on_entry}
use Rattle.bypass.specs.declared.Bypass.{Bypass}
use Rattle.bypass.specs.Lanes.{endings_of}
use Rattle.bypass.proofs.BypassLaws.{within_maximum}
use Rattle.group.specs.declared.Group.{Group}
use Rattle.group.specs.Intervals.{from_metering}
use Rattle.group.specs.Preemption.{steered_wish}
use Rattle.group.specs.Group.{interval_of, bypass_in, lanes_in, lanes_moved, released_in, group_of, moved_with, moved_of}
use Rattle.group.specs.Indications.{colour_shown, lane_shown}
use Rattle.group.proofs.IntervalLaws.{seven_is_own, lanes_cases}
use Rattle.group.proofs.RangeLaws.{LanesGood, GroupGood, lanes_keep, lanes_enter, lanes_release}
use Rattle.waiting.specs.Bound.{waiting_bound}
use Rattle.waiting.proofs.LaneRank.{Sound, ready_in, ready_soon, was_red}
use Rattle.waiting.proofs.Chain.{Chain, chain_tick, chain_enter, chain_searched}
use Rattle.waiting.proofs.Rank.{bound_least, lanes_rank, rank_most, rank_anew, rank_falls}

-- Outside metering and while a bypass is kept: one less than the bound.
unfoldable pub group_rank : Timings → ℕ → ℕ → Group → ℕ
group_rank t c j g = cond g.bypass.kept (waiting_bound t c - 1) (cond (eqb g.interval 7) (lanes_rank t c j g.lanes) (waiting_bound t c - 1))

module _ (t : Timings) (ok : Sound t) (c : ℕ) (j : ℕ) (hj : j < t.lanes) where
  some_bound : 1 ≤ waiting_bound t c
  some_bound = omega (arith, ok.some_green, bound_least t c)

  pub group_rank_most : (priority : ℕ) (g : Group) → GroupGood g t.lanes priority → Chain t g.lanes → group_rank t c j g < waiting_bound t c
  unfolding group_rank
  group_rank_most priority g v w =
      by_test g.bypass.kept
      (λ k. rw k (omega (arith, some_bound)))
      (λ k. by_test (eqb g.interval 7)
      (λ e. rw (k, e) (rank_most t ok c _ g.lanes j v.lanes w hj))
      (λ e. rw (k, e) (omega (arith, some_bound))))

  rank_in : (g : Group) → g.bypass.kept ≡ false → g.interval ≡ 7 → group_rank t c j g ≡ lanes_rank t c j g.lanes
  unfolding group_rank
  rank_in g k e = rw (k, e)

  rank_kept : (g : Group) → g.bypass.kept ≡ true → group_rank t c j g ≡ waiting_bound t c - 1
  unfolding group_rank
  rank_kept g k = rw k

  abbrev place : j < 4
  place = omega (arith, ok.most)

  -- On entering metering every lane is red at age 0, and its minimum red is less than a whole green, yellow and red.
  entered_ready : c ≤ 720 → ready_in t c (lane 1 0 720 0) ≤ max c (t.maxgreen + t.yellow + t.minred) - 1
  unfolding ready_in red_in
  entered_ready hc = omega (arith, ok.some_red, ok.some_green, ok.some_yellow)

  -- The lanes after the search, and the rank of one that it does not release.
  module _ (cycle : ℕ) (demand : List ℕ) (s : Lanes) (v : LanesGood true s t.lanes) (w : Chain t s) where
    anew : eqb (released_of t cycle demand s) (j + 1) ≡ false → ready_in t c (lane_of s j) ≤ max c (t.maxgreen + t.yellow + t.minred) - 1
        → lanes_rank t c j (release_of s (released_of t cycle demand s)) < waiting_bound t c - 1
    anew miss soon =
        let k = released_of t cycle demand s in
        rank_anew t ok c true (release_of s k) j (lanes_release s t.lanes k (released_in_lem t cycle demand s ok.least) v)
        (chain_searched t ok s cycle demand w) hj (rw (lane_stays s k j place miss) soon)

  module _ (hp : t.priority ≤ t.lanes) (calls : Calls) (wish : Wish) (cycle : ℕ) (samples : Metered) (g : Group) (v : GroupGood g t.lanes t.priority) (w : Chain t g.lanes) where
    abbrev now : ℕ
    now = interval_of t calls.preemption wish g

    abbrev bypass : Bypass
    bypass = bypass_in t calls.bypass samples.passage now g

    abbrev endings : Endings
    endings = endings_of t g.bypass bypass

    abbrev moved : Lanes
    moved = lanes_in t endings samples.passage g.interval now g.lanes

    -- A tick that begins and ends in metering: with a bypass kept as it begins it is the tick of the end.
    in_seven : bypass.kept ≡ false → c ≤ 720 → 1 ≤ cycle → cycle ≤ c → get_or samples.demand j 0 ≡ 1 → g.interval ≡ 7
        → let s : Lanes = lanes_tick t endings g.lanes samples.passage in
        eqb (released_of t cycle samples.demand s) (j + 1) ≡ false
        → lanes_rank t c j (release_of s (released_of t cycle samples.demand s)) < group_rank t c j g
    in_seven none hc some hcycle d b miss =
        let good : LanesGood true g.lanes t.lanes = rw b at v.lanes in
        let s = lanes_tick t endings g.lanes samples.passage in
        let after = lanes_rank t c j (release_of s (released_of t cycle samples.demand s)) in
        by_test g.bypass.kept
        (λ k. subst (λ (r : ℕ). after < r) (sym (rank_kept g k))
        (anew cycle samples.demand s (lanes_keep t endings g.lanes samples.passage good) (chain_tick t ok true endings g.lanes samples.passage good w) miss
        (rw (lane_in t endings g.lanes samples.passage j place hj) (ready_soon t ok _ (lane_of g.lanes j) (get_or samples.passage j 0) c))))
        (λ k. subst (λ (r : ℕ). after < r) (sym (rank_in g k b))
        (rank_falls t ok c hc endings (within_maximum t g.bypass bypass none) g.lanes samples.passage good w cycle some hcycle samples.demand j hj d miss))

    -- Metering is entered with no bypass kept.
    none_before : eqb g.interval 7 ≡ false → g.bypass.kept ≡ false
    none_before b = by_test g.bypass.kept (λ k. absurd (true≢false (sym (v.bypass.in_metering k) ∙ b))) (λ k. k)

    entering : c ≤ 720 → eqb g.interval 7 ≡ false → eqb (released_of t cycle samples.demand (lanes_entered t.lanes)) (j + 1) ≡ false
        → lanes_rank t c j (release_of (lanes_entered t.lanes) (released_of t cycle samples.demand (lanes_entered t.lanes))) < group_rank t c j g
    unfolding group_rank
    entering hc b miss =
        rw (none_before b, b)
        (anew cycle samples.demand (lanes_entered t.lanes) (lanes_enter true t.lanes ok.least) (chain_enter t ok) miss
        (rw (entered_in t.lanes j place hj) (entered_ready hc)))

    -- The search: what is released where no bypass is kept.
    searched : (kept : Bool) → kept ≡ false → (k : ℕ) (s : Lanes) → released_in t kept cycle samples.demand k s ≡ released_in t false cycle samples.demand k s
    searched kept e k s = ap (λ b. released_in t b cycle samples.demand k s) e

    lanes_fall : bypass.kept ≡ false → c ≤ 720 → (from_metering (steered_wish calls.preemption wish) ≡ 7 → 1 ≤ cycle) → cycle ≤ c → get_or samples.demand j 0 ≡ 1
        → now ≡ 7 → eqb (released_in t false cycle samples.demand now moved) (j + 1) ≡ false
        → lanes_rank t c j (release_of moved (released_in t false cycle samples.demand now moved)) < group_rank t c j g
    unfolding released_in
    lanes_fall none hc some hcycle d =
        lanes_cases t calls.preemption wish endings samples.passage g v.interval
        (λ k s. k ≡ 7 → eqb (released_in t false cycle samples.demand k s) (j + 1) ≡ false
        → lanes_rank t c j (release_of s (released_in t false cycle samples.demand k s)) < group_rank t c j g)
        (λ b f _ miss. in_seven none hc (some f) hcycle d b miss)
        (λ b _ miss. entering hc b miss)
        (λ _ e _. absurd (omega arith))
        (λ k _ o _ e _. absurd (seven_is_own e o))

    -- The rank falls at a tick that ends in metering with no bypass kept and does not release the lane.
    pub group_falls : c ≤ 720 → (from_metering (steered_wish calls.preemption wish) ≡ 7 → 1 ≤ cycle) → cycle ≤ c → get_or samples.demand j 0 ≡ 1
        → (moved_of t calls wish cycle samples g).group.interval ≡ 7 → (moved_of t calls wish cycle samples g).group.bypass.kept ≡ false
        → eqb (moved_of t calls wish cycle samples g).released (j + 1) ≡ false
        → group_rank t c j (moved_of t calls wish cycle samples g).group < group_rank t c j g
    unfolding moved_of moved_with group_of lanes_moved
    group_falls hc some hcycle d e none miss =
        let same = searched bypass.kept none now moved in
        subst (λ (r : ℕ). r < group_rank t c j g)
        (sym (rank_in (moved_of t calls wish cycle samples g).group none e ∙ ap (λ k. lanes_rank t c j (release_of moved k)) same))
        (lanes_fall none hc some hcycle d e (sym (ap (λ k. eqb k (j + 1)) same) ∙ miss))

    lane_was_red : now ≡ 7 → eqb (released_in t false cycle samples.demand now moved) (j + 1) ≡ true → (g.interval ≡ 7) × ((lane_of g.lanes j).colour ≡ 1)
    unfolding released_in
    lane_was_red =
        lanes_cases t calls.preemption wish endings samples.passage g v.interval
        (λ k s. k ≡ 7 → eqb (released_in t false cycle samples.demand k s) (j + 1) ≡ true → (g.interval ≡ 7) × ((lane_of g.lanes j).colour ≡ 1))
        (λ b _ _ hit. (b, from_tick hit))
        (λ _ _ hit. absurd (from_entry hit))
        (λ _ e _. absurd (omega arith))
        (λ k _ o _ e _. absurd (seven_is_own e o))
      where
        from_tick : eqb (released_of t cycle samples.demand (lanes_tick t endings g.lanes samples.passage)) (j + 1) ≡ true → (lane_of g.lanes j).colour ≡ 1
        from_tick hit =
            let r = released_lane t cycle samples.demand (lanes_tick t endings g.lanes samples.passage) j hit in
            let at = lane_in t endings g.lanes samples.passage j place hj in
            was_red t ok _ (lane_of g.lanes j) (get_or samples.passage j 0) (rw at at r.red) (rw at at r.long)

        from_entry : eqb (released_of t cycle samples.demand (lanes_entered t.lanes)) (j + 1) ≡ true → ⊥
        from_entry hit =
            omega (
              arith,
              eqb-true (released_of t cycle samples.demand (lanes_entered t.lanes)) (j + 1) hit,
              none_on_entry t cycle samples.demand ok.least ok.most (omega (arith, ok.some_red)),
            )

    -- A lane is released in metering alone.
    in_metering : (k : ℕ) (s : Lanes) → eqb (released_in t false cycle samples.demand k s) (j + 1) ≡ true → k ≡ 7
    unfolding released_in
    in_metering k s hit =
        by_test (eqb k 7) (λ e. eqb-true k 7 e)
        (λ e. let z : ◌≡◌ {A = ℕ} 0 (j + 1) = eqb-true 0 (j + 1) (rw e at hit) in absurd (omega arith))

    -- At a tick that, with no bypass kept, releases the lane its lamps show green, and before it they showed red.
    module _ (none : (moved_of t calls wish cycle samples g).group.bypass.kept ≡ false) (released : eqb (moved_of t calls wish cycle samples g).released (j + 1) ≡ true) where
      hit : eqb (released_in t false cycle samples.demand now moved) (j + 1) ≡ true
      unfolding moved_of moved_with group_of lanes_moved
      hit = sym (ap (λ k. eqb k (j + 1)) (searched bypass.kept none now moved)) ∙ released

      pub shown_red : (g.interval ≡ 7) × (lane_shown g t.lanes j ≡ 1)
      unfolding lane_shown colour_shown
      shown_red =
          let p = lane_was_red (in_metering now moved hit) hit in
          (p.0, rw (lt-ltb j t.lanes hj, p.0, p.1))

      pub shown_green : lane_shown (moved_of t calls wish cycle samples g).group t.lanes j ≡ 3
      unfolding moved_of moved_with group_of lanes_moved lane_shown colour_shown
      shown_green = rw (lt-ltb j t.lanes hj, lane_goes moved _ j place released, in_metering now moved hit)
