-- What the search finds is what the request's words say, and they leave no other.
use Prim.Native.Nat.{ℕ, ◌+◌, ◌-◌, ◌≤◌, ◌<◌}
use mathlib.Core.Path.{◌≡◌, sym, ◌∙◌}
use mathlib.Core.Bool.{true, false}
use mathlib.Core.List.{List}
use native.Mathlib.Omega.{arith}
use borrow.Author.Tests.{leb-true, eqb-true, eqb-false, eq-eqb, ne_eqb, le-leb, not-true}
use lib.Dec.{eqb}
use lib.ListN.{get_or}
use Rattle.loops.proofs.AnyLaws.{none_of, any_of_none}
use Rattle.loops.proofs.Cases.{by_test}
use Rattle.turns.proofs.TurnLaws.{turns_in, First, first_of}
use Rattle.timings.specs.declared.Timings.{Timings}
use Rattle.lanes.specs.declared.Lanes.{Lanes}
use Rattle.lanes.specs.Lanes.{lane_of}
use Rattle.release.specs.Release.{ready_at, any_green, may_release, released_of}
use Rattle.release.specs.Found.{ReadyLane, MayRelease, Found}
use Rattle.release.proofs.ReleaseLaws.{is_ready_lem, released_in_lem, may_release_lem, released_lane}

module _ (t : Timings) (cycle : ℕ) (s : Lanes) where
  none_green : any_green s t.lanes ≡ false → (i : ℕ) → i < t.lanes → (lane_of s i).colour ≡ 3 → ⊥
  unfolding any_green
  none_green e i h = eqb-false _ 3 (none_of (λ i. eqb (lane_of s i).colour 3) 0 t.lanes e i (omega arith) (omega arith))

  no_green : ((i : ℕ) → i < t.lanes → (lane_of s i).colour ≡ 3 → ⊥) → any_green s t.lanes ≡ false
  unfolding any_green
  no_green f = any_of_none (λ i. eqb (lane_of s i).colour 3) 0 t.lanes (λ i _ h. ne_eqb _ 3 (f i (omega arith)))

  -- The test for a release is what the words ask.
  pub possible : may_release t cycle s ≡ true → MayRelease t cycle s
  unfolding may_release
  possible e = record {
    exclusion = λ m. let ne = ne_eqb t.mode 1 m in none_green (not-true (any_green s t.lanes) (rw ne at e));
    offset = λ m. leb-true _ _ (rw (eq-eqb t.mode 1 m) at e);
  }

  is_possible : MayRelease t cycle s → may_release t cycle s ≡ true
  unfolding may_release
  is_possible p =
      by_test (eqb t.mode 1)
      (λ m. rw (m, le-leb _ _ (p.offset (eqb-true t.mode 1 m))))
      (λ m. rw (m, no_green (p.exclusion (eqb-false t.mode 1 m))))

module _ (t : Timings) (cycle : ℕ) (demand : List ℕ) (s : Lanes) where
  is_ready_lane : (k : ℕ) → ReadyLane t cycle demand s k → ready_at t cycle demand s k ≡ true
  unfolding ready_at
  is_ready_lane k l = is_ready_lem t cycle (get_or demand (k - 1) 0) (lane_of s (k - 1)) l.ready

  -- The definition is what the words say.
  module _ (least : 1 ≤ s.last) (most : s.last ≤ t.lanes) where
    abbrev released : ℕ
    released = released_of t cycle demand s

    found_first : may_release t cycle s ≡ true → (k : ℕ) → ReadyLane t cycle demand s k → First t.lanes s.last k released
    unfolding released_of
    found_first e k l =
        rw e
        (first_of (ready_at t cycle demand s) t.lanes s.last k t.lanes least most l.least l.most (is_ready_lane k l)
        (turns_in t.lanes s.last k least most l.least l.most).1)

    pub found : Found t cycle demand s released
    found = record {
      some = λ p k l z. omega (arith, z, (found_first (is_possible t cycle s p) k l).some);
      possible = λ f. possible t cycle s (may_release_lem t cycle demand s (ne_eqb released 0 f));
      ready = λ f. let back : released ≡ released - 1 + 1 = omega (arith, f) in
          record {
            least = omega (arith, f);
            most = released_in_lem t cycle demand s (omega arith);
            ready = released_lane t cycle demand s (released - 1) (eq-eqb released (released - 1 + 1) back);
          };
      first = λ f k l other. (found_first (may_release_lem t cycle demand s (ne_eqb released 0 f)) k l).first (ne_eqb released k (λ z. other (sym z)));
    }

  -- The words leave no other: where one number that fits them is a lane, each is,
  found_too : (a b : ℕ) → Found t cycle demand s a → Found t cycle demand s b → (b ≡ 0 → ⊥) → a ≡ 0 → ⊥
  found_too a b f g lane = f.some (g.possible lane) b (g.ready lane)

  -- and of two lanes neither could be the first.
  pub found_once : (a b : ℕ) → Found t cycle demand s a → Found t cycle demand s b → a ≡ b
  found_once a b f g =
      by_test (eqb a b) (eqb-true a b)
      (λ e. let differ = eqb-false a b e in
      by_test (eqb b 0)
      (λ z. let none = eqb-true b 0 z in absurd (found_too b a g f (λ y. differ (y ∙ sym none)) none))
      (λ z. let other = eqb-false b 0 z in
      let lane = found_too a b f g other in
      absurd (omega (arith, f.first lane b (g.ready other) (λ y. differ (sym y)), g.first other a (f.ready lane) differ))))
