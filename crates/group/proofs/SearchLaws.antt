-- The lane that a tick of the group releases, in the requests' words.
use Prim.Native.Nat.{ℕ, ◌≤◌}
use mathlib.Core.Path.{◌≡◌, refl, sym, ◌∙◌, ap, subst}
use mathlib.Core.Bool.{Bool, true, false, cond}
use mathlib.Core.List.{List}
use native.Mathlib.Omega.{arith}
use borrow.Author.Tests.{eqb-true, eqb-false, eq-eqb, ne_eqb}
use lib.Dec.{eqb}
use Rattle.loops.proofs.Cases.{by_test}
use Rattle.timings.specs.declared.Timings.{Timings}
use Rattle.inputs.specs.declared.Metered.{Metered}
use Rattle.inputs.specs.declared.Calls.{Calls}
use Rattle.wanted.specs.declared.wish.Wish.{Wish}
use Rattle.lanes.specs.declared.Lanes.{Lanes}
use Rattle.lanes.specs.Lanes.{lanes_entered}
use Rattle.release.specs.Release.{released_of}
use Rattle.release.specs.Found.{Found}
use Rattle.release.proofs.ReleaseLaws.{none_on_entry}
use Rattle.release.proofs.FoundLaws.{found}
use Rattle.bypass.specs.declared.Bypass.{Bypass}
use Rattle.bypass.specs.Lanes.{endings_of, released_for}
use Rattle.bypass.specs.Found.{FoundFor}
use Rattle.bypass.proofs.BypassLaws.{found_for, none_due_on_entry}
use Rattle.group.specs.declared.Group.{Group}
use Rattle.group.specs.Intervals.{from_metering}
use Rattle.group.specs.Preemption.{steered_wish}
use Rattle.group.specs.Group.{interval_of, bypass_in, lanes_moved, released_in, group_of, moved_with, moved_of}
use Rattle.group.specs.Searched.{Searched}
use Rattle.group.proofs.IntervalLaws.{seven_is_own, leads_on, lanes_cases}
use Rattle.group.proofs.RangeLaws.{GroupGood, moved_bypass, moved_lanes, none_outside}

-- The lane released is that of the search where no bypass is kept, in metering alone, and else that of the bypass.
module _ (t : Timings) (cycle : ℕ) (demand : List ℕ) (now : ℕ) (s : Lanes) (kept : Bool) where
  pub by_search : kept ≡ false → released_in t kept cycle demand now s ≡ cond (eqb now 7) (released_of t cycle demand s) 0
  unfolding released_in
  by_search e = rw e

  pub by_bypass : kept ≡ true → released_in t kept cycle demand now s ≡ released_for t s
  unfolding released_in
  by_bypass e = rw e

-- On entering metering none is released, with a bypass or without.
module _ (t : Timings) (h : 1 ≤ t.lanes) (hp : t.priority ≤ t.lanes) (four : t.lanes ≤ 4) (red : 1 ≤ t.minred) (cycle : ℕ) (demand : List ℕ) where
  pub none_on_entering : (kept : Bool) → released_in t kept cycle demand 7 (lanes_entered t.lanes) ≡ 0
  none_on_entering true = by_bypass t cycle demand 7 _ true refl ∙ none_due_on_entry t hp four red
  none_on_entering false = by_search t cycle demand 7 _ false refl ∙ none_on_entry t cycle demand h four red

module _ (t : Timings) (calls : Calls) (wish : Wish) (cycle : ℕ) (samples : Metered) (g : Group) (h : 1 ≤ t.lanes) (hp : t.priority ≤ t.lanes)
    (four : t.lanes ≤ 4) (red : 1 ≤ t.minred) (v : GroupGood g t.lanes t.priority) where
  abbrev now : ℕ
  now = interval_of t calls.preemption wish g

  abbrev b : Bypass
  b = bypass_in t calls.bypass samples.passage now g

  abbrev s : Lanes
  s = lanes_moved t now b samples g

  abbrev released : ℕ
  released = released_in t b.kept cycle samples.demand now s

  outside : (now ≡ 7 → ⊥) → released ≡ 0
  outside f =
      none_outside t calls wish cycle samples g h hp v b.kept now s (moved_bypass t calls wish cycle samples g h hp v).in_metering (ne_eqb now 7 f)

  searched : now ≡ 7 → b.kept ≡ false → Found t cycle samples.demand s released
  searched e k =
      let good = moved_lanes t calls wish cycle samples g h hp v in
      let is = by_search t cycle samples.demand now s b.kept k ∙ ap (λ x. cond x (released_of t cycle samples.demand s) 0) (eq-eqb now 7 e) in
      subst (Found t cycle samples.demand s) (sym is) (found t cycle samples.demand s good.least good.most)

  for_bypass : b.kept ≡ true → FoundFor t s released
  for_bypass k = subst (FoundFor t s) (sym (by_bypass t cycle samples.demand now s b.kept k)) (found_for t s)

  -- A lane is released only where metering goes on, and so is wished.
  pub entering : (g.interval ≡ 7 → ⊥) → now ≡ 7 → released ≡ 0
  unfolding lanes_moved
  entering f =
      lanes_cases t calls.preemption wish (endings_of t g.bypass b) samples.passage g v.interval
      (λ k q. k ≡ 7 → released_in t b.kept cycle samples.demand k q ≡ 0)
      (λ began _ _. absurd (f began))
      (λ _ _. none_on_entering t h hp four red cycle samples.demand b.kept)
      (λ _ e. absurd (omega arith))
      (λ k _ o _ e. absurd (seven_is_own e o))

  wished : (released ≡ 0 → ⊥) → from_metering (steered_wish calls.preemption wish) ≡ 7
  wished some =
      by_test (eqb now 7)
      (λ e. let seven = eqb-true now 7 e in
      by_test (eqb g.interval 7)
      (λ o. (leads_on t calls.preemption wish g v.interval).to_seven seven (eqb-true g.interval 7 o))
      (λ o. absurd (some (entering (eqb-false g.interval 7 o) seven))))
      (λ e. absurd (some (outside (eqb-false now 7 e))))

  -- What the request says of a tick, where a wish to meter has a cycle of 20 to 720.
  pub moved_searched : (from_metering (steered_wish calls.preemption wish) ≡ 7 → (20 ≤ cycle) × (cycle ≤ 720))
      → Searched t cycle samples g (moved_of t calls wish cycle samples g)
  unfolding moved_of moved_with group_of
  moved_searched in_range = record { outside = outside; found = searched; bypass = for_bypass; in_range = λ f. in_range (wished f) }
