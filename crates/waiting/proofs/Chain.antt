-- What holds of the lanes since power-up, besides their ranges: under mutual exclusion a green lane is the last released one, and the last
-- released lane's cycle counter equals the offset counter.
use Prim.Native.Nat.{ℕ, ◌+◌, ◌-◌, ◌≤◌, ◌<◌}
use mathlib.Core.Path.{◌≡◌, refl, sym, ◌∙◌, ap}
use mathlib.Core.Bool.{Bool, true, false}
use mathlib.Core.List.{List}
use native.Mathlib.Omega.{arith}
use borrow.Author.Tests.{eqb-true, eqb-false, eq-eqb}
use lib.Dec.{eqb}
use lib.ListN.{get_or}
use Rattle.inputs.specs.declared.Metered.{Metered}
use Rattle.inputs.specs.declared.Calls.{Calls}
use Rattle.wanted.specs.declared.wish.Wish.{Wish}
use Rattle.timings.specs.declared.Timings.{Timings}
use Rattle.lanes.specs.declared.Lane.{Lane}
use Rattle.lanes.specs.declared.Lanes.{Lanes}
use Rattle.lanes.specs.declared.Endings.{Endings}
use Rattle.lanes.specs.Intervals.{rise_of}
use Rattle.lanes.specs.Lanes.{lane_of, lanes_tick, lanes_entered}
use Rattle.loops.proofs.Cases.{by_test}
use Rattle.lanes.proofs.LaneLaws.{tick_counter, lane_in, offset_ticked, last_ticked, entered_in, offset_entered, last_entered}
use Rattle.release.specs.Release.{released_of, release_of}
use Rattle.release.proofs.ReleaseLaws.{none_released, lane_goes, lane_stays, last_released, offset_released, released_in_lem, may_release_lem}
use Rattle.release.proofs.FoundLaws.{possible}
use Rattle.group.specs.declared.Group.{Group}
use Rattle.bypass.specs.Lanes.{released_for}
use Rattle.bypass.proofs.BypassLaws.{due, released_for_lem, released_most}
use Rattle.group.specs.Group.{interval_of, lanes_in, lanes_moved, released_in, group_of, moved_with, moved_of}
use Rattle.group.proofs.IntervalLaws.{lanes_cases}
use Rattle.group.proofs.RangeLaws.{LanesGood, GroupGood}
use Rattle.waiting.proofs.LaneRank.{Sound, was_green}

-- The cycle counter of lane k, from 1.
abbrev counter_of : Lanes → ℕ → ℕ
counter_of s k = (lane_of s (k - 1)).counter

abbrev counter : Lane → ℕ
counter l = l.counter

pub record Chain (t : Timings) (s : Lanes) : Type 0 where
  pub one_green : eqb t.mode 1 ≡ false → (i : ℕ) → i < 4 → i < t.lanes → (lane_of s i).colour ≡ 3 → i + 1 ≡ s.last
  pub newest : (lane_of s (s.last - 1)).counter ≡ s.offset

module _ (t : Timings) (ok : Sound t) where
  pub chain_tick : (own : Bool) (endings : Endings) (s : Lanes) (passage : List ℕ) → LanesGood own s t.lanes → Chain t s → Chain t (lanes_tick t endings s passage)
  chain_tick own endings s passage v w =
      let i = s.last - 1 in
      let at = lane_in t endings s passage i (omega (arith, v.least, v.most, ok.most)) (omega (arith, v.least, v.most)) in
      record {
        one_green = λ m i h k e.
            w.one_green m i h k (was_green t ok _ (lane_of s i) (get_or passage i 0) (rw (lane_in t endings s passage i h k) at e))
            ∙ sym (last_ticked t endings s passage);
        newest =
            ap (counter_of (lanes_tick t endings s passage)) (last_ticked t endings s passage)
            ∙ ap counter at
            ∙ tick_counter t _ (lane_of s i) (get_or passage i 0)
            ∙ ap rise_of w.newest
            ∙ sym (offset_ticked t endings s passage);
      }

  pub chain_enter : Chain t (lanes_entered t.lanes)
  chain_enter =
      let n = t.lanes in
      record {
        one_green = λ m i h k e. let z : ◌≡◌ {A = ℕ} 1 3 = rw (entered_in n i h k) at e in absurd (omega arith);
        newest =
            ap (counter_of (lanes_entered n)) (last_entered n)
            ∙ ap counter (entered_in n (n - 1) (omega (arith, ok.least, ok.most)) (omega (arith, ok.least)))
            ∙ sym (offset_entered n);
      }

  -- A release that finds no other lane green keeps it:
  pub chain_release : (s : Lanes) (k : ℕ) → k ≤ t.lanes
      → (eqb k 0 ≡ false → eqb t.mode 1 ≡ false → (i : ℕ) → i < t.lanes → eqb k (i + 1) ≡ false → (lane_of s i).colour ≡ 3 → ⊥)
      → Chain t s → Chain t (release_of s k)
  chain_release s k h no_other w =
      by_test (eqb k 0) (λ e. rw (none_released s k e) w)
      (λ e. record {
        one_green = λ m i l j c. by_test (eqb k (i + 1))
            (λ f. sym (eqb-true k (i + 1) f) ∙ sym (last_released s k e))
            (λ f. absurd (no_other e m i j f (rw (lane_stays s k i l f) at c)));
        newest = let below : k - 1 < 4 = omega (arith, ok.most, eqb-false k 0 e) in
            let back : k ≡ k - 1 + 1 = omega (arith, eqb-false k 0 e) in
            ap (counter_of (release_of s k)) (last_released s k e)
            ∙ ap counter (lane_goes s k (k - 1) below (eq-eqb k (k - 1 + 1) back))
            ∙ sym (offset_released s k e);
      })

  -- The ordinary release, which under mutual exclusion finds none green,
  pub chain_searched : (s : Lanes) (cycle : ℕ) (demand : List ℕ) → Chain t s → Chain t (release_of s (released_of t cycle demand s))
  chain_searched s cycle demand w =
      chain_release s _ (released_in_lem t cycle demand s ok.least)
      (λ e m i h _. (possible t cycle s (may_release_lem t cycle demand s e)).exclusion (eqb-false t.mode 1 m) i h) w

  -- and that of a bypass, which finds all others red.
  chain_due : t.priority ≤ t.lanes → (s : Lanes) → Chain t s → Chain t (release_of s (released_for t s))
  chain_due hp s w =
      chain_release s _ (omega (arith, released_most t s, hp))
      (λ e m i h f c. let red = (due t s e).others i h (λ z. eqb-false (released_for t s) (i + 1) f (released_for_lem t s e ∙ sym z)) in omega (arith, red, c)) w

  chain_released : t.priority ≤ t.lanes → (kept : Bool) (s : Lanes) (now cycle : ℕ) (demand : List ℕ) → Chain t s → Chain t (release_of s (released_in t kept cycle demand now s))
  unfolding released_in
  chain_released hp true s now cycle demand w = chain_due hp s w
  chain_released hp false s now cycle demand w =
      by_test (eqb now 7) (λ e. rw e (chain_searched s cycle demand w)) (λ e. rw (e, none_released s 0 refl) w)

  -- A tick of the group keeps it.
  module _ (hp : t.priority ≤ t.lanes) (calls : Calls) (wish : Wish) (cycle : ℕ) (samples : Metered) (g : Group) (v : GroupGood g t.lanes t.priority) (w : Chain t g.lanes) where
    chain_lanes : (endings : Endings) → Chain t (lanes_in t endings samples.passage g.interval (interval_of t calls.preemption wish g) g.lanes)
    chain_lanes endings =
        lanes_cases t calls.preemption wish endings samples.passage g v.interval (λ _ s. Chain t s)
        (λ _ _. chain_tick _ endings g.lanes samples.passage v.lanes w)
        (λ _. chain_enter)
        (λ _. chain_tick _ endings g.lanes samples.passage v.lanes w)
        (λ _ _ _ _. w)

    pub chain_moved : Chain t (moved_of t calls wish cycle samples g).group.lanes
    unfolding moved_of moved_with group_of lanes_moved
    chain_moved = chain_released hp _ _ _ cycle samples.demand (chain_lanes _)
