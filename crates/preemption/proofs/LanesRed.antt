-- How long the lanes of a group take until all are red; a tick shortens it.
use Prim.Native.Nat.{ℕ, ◌+◌, ◌-◌, ◌≤◌, ◌<◌}
use mathlib.Core.Path.{◌≡◌, sym, ◌∙◌}
use mathlib.Core.Bool.{true, false, not, true≢false}
use mathlib.Core.List.{List}
use native.Mathlib.Omega.{arith}
use borrow.Author.Tests.{leb-true, leb-false, eq-eqb}
use lib.Dec.{leb, eqb}
use lib.ListN.{get_or}
use Rattle.loops.proofs.AnyLaws.{any_of_none}
use Rattle.loops.proofs.Cases.{by_test}
use Rattle.timings.specs.declared.Timings.{Timings}
use Rattle.site.proofs.TimingLaws.{TimingsGood}
use Rattle.lanes.specs.declared.Lane.{Lane}
use Rattle.lanes.specs.declared.Lanes.{Lanes}
use Rattle.lanes.specs.declared.Endings.{Endings}
use Rattle.lanes.specs.Lanes.{lane_of, ending_of, lanes_tick, lanes_entered}
use Rattle.lanes.proofs.LaneLaws.{Within, lane_in, entered_in}
use Rattle.lanes.proofs.RedLaws.{red_in, red_falls, red_now}
use Rattle.lanes.proofs.MostLaws.{most_of, most_each, most_most}
use Rattle.group.specs.Group.{all_red}
use Rattle.group.proofs.RangeLaws.{LanesGood}

-- Ticks, the present one included, until all lanes are red; 0 where they are.
pub all_red_in : Timings → Lanes → ℕ
all_red_in t s = most_of (λ i. red_in t t.maxgreen 0 (lane_of s i)) t.lanes

-- A lane takes a whole green and yellow at the most.
lane_red_most : (t : Timings) (l : Lane) → 1 ≤ t.maxgreen → 1 ≤ t.yellow → red_in t t.maxgreen 0 l ≤ t.maxgreen + t.yellow
unfolding red_in
lane_red_most t l g y =
    by_test (eqb l.colour 3)
    (λ e. rw e (omega arith))
    (λ e. by_test (eqb l.colour 2) (λ f. rw (e, f) (omega arith)) (λ f. rw (e, f) (omega arith)))

module _ (t : Timings) (ok : TimingsGood t) where
  pub lanes_red_most : (s : Lanes) → all_red_in t s ≤ t.maxgreen + t.yellow
  unfolding all_red_in
  lanes_red_most s =
      most_most _ t.lanes _
      (λ i h. lane_red_most t (lane_of s i) (omega (arith, ok.green_least)) (omega (arith, ok.yellow_least)))

  pub lanes_red_fall : (endings : Endings) → ((k : ℕ) → Within t t.maxgreen (ending_of endings k)) → (s : Lanes) (passage : List ℕ)
      → all_red_in t (lanes_tick t endings s passage) ≤ all_red_in t s - 1
  unfolding all_red_in
  lanes_red_fall endings within s passage =
      most_most _ t.lanes _
      (λ i h. rw (lane_in t endings s passage i (omega (arith, ok.lanes_most)) h)
      (omega (
        arith,
        red_falls t (ending_of endings (i + 1)) t.maxgreen 0 (within (i + 1)) (omega (arith, ok.green_most)) (omega (arith, ok.yellow_least)) (omega (arith, ok.yellow_most)) (omega arith) (lane_of s i) (get_or passage i 0),
        most_each (λ i. red_in t t.maxgreen 0 (lane_of s i)) t.lanes i h,
      )))

  pub entered_red : all_red_in t (lanes_entered t.lanes) ≡ 0
  unfolding all_red_in red_in
  entered_red =
      omega (
        arith,
        most_most (λ i. red_in t t.maxgreen 0 (lane_of (lanes_entered t.lanes) i)) t.lanes 0
            (λ i h. rw (entered_in t.lanes i (omega (arith, ok.lanes_most)) h) (omega arith)),
      )

  -- Where a lane is not red, it takes some tick.
  pub some_lane : (s : Lanes) → LanesGood true s t.lanes → all_red s t.lanes ≡ false → 1 ≤ all_red_in t s
  unfolding all_red_in all_red
  some_lane s v e =
      by_test (leb 1 (all_red_in t s)) (λ f. leb-true 1 (all_red_in t s) f)
      (λ f. absurd (true≢false (sym (all_red_lem (leb-false 1 (all_red_in t s) f)) ∙ e)))
    where
      red_at : all_red_in t s < 1 → (i : ℕ) → i < t.lanes → (lane_of s i).colour ≡ 1
      red_at f i h =
          let l = v.inside i (omega (arith, ok.lanes_most)) h in
          (red_now t t.maxgreen 0 (lane_of s i) l.least l.most
          (omega (arith, most_each (λ i. red_in t t.maxgreen 0 (lane_of s i)) t.lanes i h))).0

      all_red_lem : all_red_in t s < 1 → all_red s t.lanes ≡ true
      all_red_lem f =
          rw (any_of_none (λ i. not (eqb (lane_of s i).colour 1)) 0 t.lanes (λ i l h. rw (eq-eqb (lane_of s i).colour 1 (red_at f i (omega arith)))))
