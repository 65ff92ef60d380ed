-- How long a waiting lane is passed over at the most: a number that falls at each tick in metering that does not release it.
use Prim.Native.Nat.{ℕ, ◌+◌, ◌-◌, ◌*◌, ◌≤◌, ◌<◌, max}
use mathlib.Core.Path.{◌≡◌, sym, ◌∙◌, ap, subst}
use mathlib.Core.Bool.{Bool, true, false, cond, true≢false}
use mathlib.Core.List.{List}
use native.Mathlib.Omega.{arith}
use native.Mathlib.Nat.{add-mul, one-mul, mul-one, mul-le-mul_left, mul-le-mul_right}
use borrow.Author.Tests.{leb-true, leb-false, eqb-true, eqb-false, eq-eqb, ne_eqb, le-leb, not-false}
use lib.Dec.{leb, eqb}
use lib.ListN.{get_or}
use Rattle.loops.proofs.AnyLaws.{any_of_none}
use Rattle.timings.specs.declared.Timings.{Timings}
use Rattle.lanes.specs.declared.Lanes.{Lanes}
use Rattle.lanes.specs.declared.Endings.{Endings}
use Rattle.lanes.specs.Intervals.{rise_of, lane_tick}
use Rattle.lanes.specs.Lanes.{lane_of, ending_of, lanes_tick}
use Rattle.loops.proofs.Cases.{by_test}
use Rattle.lanes.proofs.LaneLaws.{Within, rise_min, lane_in, offset_ticked, last_ticked}
use Rattle.rounding.specs.Up.{rounded_up}
use Rattle.rounding.proofs.UpLaws.{up_most, up_least, up_grows}
use Rattle.release.specs.Cycle.{offset_ticks}
use Rattle.release.specs.Release.{any_green, may_release, released_of, release_of}
use Rattle.release.specs.Found.{ReadyLane}
use Rattle.turns.specs.Turn.{turns}
use Rattle.turns.proofs.TurnLaws.{turns_in, turns_most, nearer}
use Rattle.release.proofs.ReleaseLaws.{none_released, lane_stays, last_released, released_in_lem, none_found}
use Rattle.release.proofs.FoundLaws.{possible, found}
use Rattle.group.proofs.RangeLaws.{LanesGood, lanes_keep, lanes_release}
use Rattle.waiting.specs.Bound.{turn_ticks, waiting_bound}
use Rattle.waiting.proofs.LaneRank.{Sound, ready_in, green_for, ready_falls, green_falls, due, due_parts, due_not_green, ready_in_most, green_most}
use Rattle.waiting.proofs.Chain.{Chain, chain_tick, chain_searched}

-- Ticks, the present one not included, until a release is possible at all.
unfoldable pub gap_of : Timings → ℕ → Lanes → ℕ
gap_of t c s = cond (eqb t.mode 1) (turn_ticks t c - s.offset - 1) (green_for t (lane_of s (s.last - 1)))

-- What lane j still waits at the most: until it is due, and then a turn for each lane before it.
unfoldable pub due_rank : Timings → ℕ → ℕ → Lanes → ℕ
due_rank t c j s = gap_of t c s + (turns t.lanes s.last (j + 1) - 1) * turn_ticks t c

unfoldable pub lanes_rank : Timings → ℕ → ℕ → Lanes → ℕ
lanes_rank t c j s =
    cond (leb (ready_in t c (lane_of s j)) 1) (due_rank t c j s) (ready_in t c (lane_of s j) - 1 + (t.lanes - 1) * turn_ticks t c)

-- The bound is as long as the wait of a lane that has just turned green, and a turn for each of the others.
pub bound_least : (t : Timings) (c : ℕ) → max c (t.maxgreen + t.yellow + t.minred) + (t.lanes - 1) * turn_ticks t c ≤ waiting_bound t c
unfolding waiting_bound
bound_least t c = omega arith

-- One turn of d.
one_turn : (d x : ℕ) → 1 ≤ d → (d - 1) * x + x ≡ d * x
one_turn d x h =
    let e : d ≡ d - 1 + 1 = omega arith in
    sym (ap (λ k. k * x) e ∙ add-mul (d - 1) 1 x ∙ ap (λ k. (d - 1) * x + k) (one-mul x))

module _ (t : Timings) (ok : Sound t) (c : ℕ) where
  pub gap_most : (s : Lanes) → gap_of t c s ≤ turn_ticks t c - 1
  unfolding gap_of turn_ticks
  gap_most s =
      by_test (eqb t.mode 1) (λ m. rw m (omega arith)) (λ m. rw m (green_most t (lane_of s (s.last - 1))))

  -- The last released lane, being due, may be released at once.
  no_gap : (s : Lanes) (j : ℕ) → Chain t s → eqb s.last (j + 1) ≡ true → ready_in t c (lane_of s j) ≤ 1 → gap_of t c s ≡ 0
  unfolding gap_of turn_ticks
  no_gap s j w e r =
      let last : s.last - 1 ≡ j = omega (arith, eqb-true s.last (j + 1) e) in
      by_test (eqb t.mode 1)
      (λ m. let counted : (lane_of s j).counter ≡ s.offset = sym (ap (λ k. (lane_of s k).counter) last) ∙ w.newest in
      rw m (none (due_parts t c (lane_of s j) r).0 counted))
      (λ m. rw m (ap (λ k. green_for t (lane_of s k)) last ∙ due_not_green t ok c (lane_of s j) r))
    where
      none : c - (lane_of s j).counter ≤ 1 → (lane_of s j).counter ≡ s.offset → rounded_up c t.lanes - s.offset - 1 ≡ 0
      none p q = omega (arith, up_most t.lanes ok.least c c (omega (arith, mul-one c, mul-le-mul_left c ok.least)))

  -- A lane that is due waits no more than a turn for each of the others.
  pub due_most : (own : Bool) (s : Lanes) (j : ℕ) → LanesGood own s t.lanes → Chain t s → j < t.lanes → ready_in t c (lane_of s j) ≤ 1
      → due_rank t c j s ≤ (t.lanes - 1) * turn_ticks t c
  unfolding due_rank
  due_most own s j v w h r =
      let n = t.lanes in
      let x = turn_ticks t c in
      let d = turns n s.last (j + 1) in
      let inside = turns_in n s.last (j + 1) v.least v.most (omega arith) (omega arith) in
      by_test (eqb s.last (j + 1))
      (λ e. let shorter : d - 1 ≤ n - 1 = omega (arith, inside) in
      omega (arith, no_gap s j w e r, mul-le-mul_right x shorter))
      (λ e. let fewer : d ≤ n - 1 = omega (arith, turns_most n s.last (j + 1) v.least v.most (omega arith) (omega arith) e) in
      omega (arith, gap_most s, one_turn d x inside.0, mul-le-mul_right x fewer))

  -- The rank is below the bound.
  pub rank_most : (own : Bool) (s : Lanes) (j : ℕ) → LanesGood own s t.lanes → Chain t s → j < t.lanes → lanes_rank t c j s < waiting_bound t c
  unfolding lanes_rank
  rank_most own s j v w h =
      let whole = bound_least t c in
      by_test (leb (ready_in t c (lane_of s j)) 1)
      (λ e. rw e (omega (arith, whole, ok.some_green, due_most own s j v w h (leb-true (ready_in t c (lane_of s j)) 1 e))))
      (λ e. rw e (omega (arith, whole, leb-false (ready_in t c (lane_of s j)) 1 e, ready_in_most t ok c (lane_of s j))))

  -- Where the lane will be ready in less than a whole green, yellow and red or the cycle, it is below that by more than one.
  pub rank_anew : (own : Bool) (s : Lanes) (j : ℕ) → LanesGood own s t.lanes → Chain t s → j < t.lanes
      → ready_in t c (lane_of s j) ≤ max c (t.maxgreen + t.yellow + t.minred) - 1 → lanes_rank t c j s < waiting_bound t c - 1
  unfolding lanes_rank
  rank_anew own s j v w h soon =
      let whole = bound_least t c in
      by_test (leb (ready_in t c (lane_of s j)) 1)
      (λ e. rw e (omega (arith, whole, ok.some_green, ok.some_yellow, due_most own s j v w h (leb-true (ready_in t c (lane_of s j)) 1 e))))
      (λ e. rw e (omega (arith, whole, leb-false (ready_in t c (lane_of s j)) 1 e, soon)))

-- A tick in metering by which no green reaches the maximum.
module _ (t : Timings) (ok : Sound t) (c : ℕ) (hc : c ≤ 720) (endings : Endings) (within : (k : ℕ) → Within t t.maxgreen (ending_of endings k))
    (s : Lanes) (passage : List ℕ) (v : LanesGood true s t.lanes) (w : Chain t s) where
  abbrev s' : Lanes
  s' = lanes_tick t endings s passage

  last_place : (s.last - 1 < 4) × (s.last - 1 < t.lanes)
  last_place = (omega (arith, v.least, v.most, ok.most), omega (arith, v.least, v.most))

  -- Where no lane may be released because one is green, the last released one is,
  last_green : eqb t.mode 1 ≡ false → any_green s' t.lanes ≡ true → (lane_of s' (s.last - 1)).colour ≡ 3
  unfolding any_green
  last_green m e =
      by_test (eqb (lane_of s' (s.last - 1)).colour 3) (λ f. eqb-true (lane_of s' (s.last - 1)).colour 3 f)
      (λ f. absurd (true≢false (sym e ∙ any_of_none (λ i. eqb (lane_of s' i).colour 3) 0 t.lanes (λ i l h. other f i (omega arith)))))
    where
      after : Chain t s'
      after = chain_tick t ok true endings s passage v w

      other : eqb (lane_of s' (s.last - 1)).colour 3 ≡ false → (i : ℕ) → i < t.lanes → eqb (lane_of s' i).colour 3 ≡ false
      other f i h =
          by_test (eqb (lane_of s' i).colour 3)
          (λ g. let q = after.one_green m i (omega (arith, ok.most)) h (eqb-true (lane_of s' i).colour 3 g) in
          let place : s.last - 1 ≡ i = omega (arith, q, last_ticked t endings s passage) in
          absurd (true≢false (sym g ∙ subst (λ (k : ℕ). eqb (lane_of s' k).colour 3 ≡ false) place f)))
          (λ g. g)

  -- and the time until one may be released falls.
  pub gap_falls : (cycle : ℕ) → cycle ≤ c → may_release t cycle s' ≡ false → gap_of t c s' < gap_of t c s
  unfolding gap_of may_release turn_ticks offset_ticks
  gap_falls cycle h e =
      by_test (eqb t.mode 1)
      (λ m. rw m (offset_falls (leb-false _ _ (rw m at e))))
      (λ m. rw m (green_shorter (last_green m (not-false _ (rw m at e)))))
    where
      offset_falls : s'.offset < rounded_up cycle t.lanes → rounded_up c t.lanes - s'.offset - 1 < rounded_up c t.lanes - s.offset - 1
      offset_falls p =
          let grows = up_grows t.lanes ok.least cycle c h in
          let most = up_most t.lanes ok.least c c (omega (arith, mul-one c, mul-le-mul_left c ok.least)) in
          let now : s'.offset ≡ s.offset + 1 = risen (offset_ticked t endings s passage) (omega (arith, grows, most)) in
          fall (rounded_up c t.lanes) s.offset s'.offset now (omega (arith, grows))
        where
          risen : s'.offset ≡ rise_of s.offset → s'.offset < 720 → s'.offset ≡ s.offset + 1
          risen q l = omega (arith, rise_min s.offset)

          fall : (x a b : ℕ) → b ≡ a + 1 → b < x → x - b - 1 < x - a - 1
          fall x a b q l = omega arith

      green_shorter : (lane_of s' (s.last - 1)).colour ≡ 3 → green_for t (lane_of s' (s'.last - 1)) < green_for t (lane_of s (s.last - 1))
      green_shorter g =
          let here = lane_in t endings s passage (s.last - 1) last_place.0 last_place.1 in
          let l = lane_of s (s.last - 1) in
          let same : s'.last - 1 ≡ s.last - 1 = ap (λ k. k - 1) (last_ticked t endings s passage) in
          subst (λ (x : ℕ). x < green_for t l) (sym (ap (λ k. green_for t (lane_of s' k)) same ∙ ap (green_for t) here))
          (green_falls t ok _ l (get_or passage (s.last - 1) 0) (within _) (sym (ap (λ m. m.colour) here) ∙ g))

  module _ (cycle : ℕ) (some-cycle : 1 ≤ cycle) (hcycle : cycle ≤ c) (demand : List ℕ) (j : ℕ) (hj : j < t.lanes) where
    abbrev k : ℕ
    k = released_of t cycle demand s'

    abbrev after : Lanes
    after = release_of s' k

    good_ticked : LanesGood true s' t.lanes
    good_ticked = lanes_keep t endings s passage v

    chain_ticked : Chain t s'
    chain_ticked = chain_tick t ok true endings s passage v w

    good_after : LanesGood true after t.lanes
    good_after = lanes_release s' t.lanes k (released_in_lem t cycle demand s' ok.least) good_ticked

    chain_after : Chain t after
    chain_after = chain_searched t ok s' cycle demand chain_ticked

    abbrev place : j < 4
    place = omega (arith, ok.most)

    turn_some : 1 ≤ turn_ticks t c
    unfolding turn_ticks
    turn_some =
        by_test (eqb t.mode 1) (λ m. rw m (up_least t.lanes ok.least c (omega arith))) (λ m. rw m (omega (arith, ok.some_green)))

    -- The lane, unless it is released, is one tick on.
    lane_after : eqb k (j + 1) ≡ false → lane_of after j ≡ lane_tick t (ending_of endings (j + 1)) (lane_of s j) (get_or passage j 0)
    lane_after miss = lane_stays s' k j place miss ∙ lane_in t endings s passage j place hj

    nearer_due : eqb k (j + 1) ≡ false → ready_in t c (lane_of after j) ≤ max 1 (ready_in t c (lane_of s j) - 1)
    nearer_due miss = rw (lane_after miss) (ready_falls t ok _ (lane_of s j) (get_or passage j 0) (within (j + 1)) c hc)

    -- Being due, and in demand, it is ready,
    ready_now : get_or demand j 0 ≡ 1 → ready_in t c (lane_of s j) ≤ 1 → ReadyLane t cycle demand s' (j + 1)
    ready_now d r =
        let back : j + 1 - 1 ≡ j = omega arith in
        let p = due t ok (ending_of endings (j + 1)) (lane_of s j) (get_or passage j 0) c hc (v.inside j place hj) r in
        record {
          least = omega arith;
          most = omega arith;
          ready = rw (back, lane_in t endings s passage j place hj) (record { red = p.0; long = p.1.0; wanted = d; cycled = omega (arith, p.1.1) });
        }

    -- and another that is found is nearer to it than the one released before.
    released_nearer : may_release t cycle s' ≡ true → ReadyLane t cycle demand s' (j + 1) → eqb k (j + 1) ≡ false
        → (1 ≤ k) × (turns t.lanes k (j + 1) < turns t.lanes s.last (j + 1))
    released_nearer may r miss =
        let u = good_ticked in
        let f = found t cycle demand s' u.least u.most in
        let some : k ≡ 0 → ⊥ = f.some (possible t cycle s' may) (j + 1) r in
        let one : 1 ≤ k = omega (arith, some) in
        let first = f.first some (j + 1) r (λ z. eqb-false k (j + 1) miss (sym z)) in
        let near = nearer t.lanes s'.last k (j + 1) u.least u.most one (released_in_lem t cycle demand s' ok.least) (omega arith) (omega arith) first in
        (one, subst (λ (a : ℕ). turns t.lanes k (j + 1) < turns t.lanes a (j + 1)) (last_ticked t endings s passage) near)

    -- Once the lane is due, either another is released, a turn nearer, or the time until one may be falls.
    due_falls : get_or demand j 0 ≡ 1 → ready_in t c (lane_of s j) ≤ 1 → eqb k (j + 1) ≡ false → due_rank t c j after < due_rank t c j s
    unfolding due_rank
    due_falls d r miss =
        let x = turn_ticks t c in
        by_test (may_release t cycle s')
        (λ may. let q = released_nearer may (ready_now d r) miss in
        let some : eqb k 0 ≡ false = ne_eqb k 0 (λ z. omega (arith, q.0)) in
        let inside = turns_in t.lanes k (j + 1) q.0 (released_in_lem t cycle demand s' ok.least) (omega arith) (omega arith) in
        let here : turns t.lanes after.last (j + 1) ≡ turns t.lanes k (j + 1) = ap (λ a. turns t.lanes a (j + 1)) (last_released s' k some) in
        rw here
        (turn_nearer x (gap_of t c after) (gap_of t c s) (turns t.lanes k (j + 1)) (turns t.lanes s.last (j + 1)) turn_some
        (gap_most t ok c after) inside.0 q.1))
        (λ may. let none : release_of s' k ≡ s' = none_released s' k (eq-eqb k 0 (none_found t cycle demand s' may)) in
        let here : turns t.lanes s'.last (j + 1) ≡ turns t.lanes s.last (j + 1) = ap (λ a. turns t.lanes a (j + 1)) (last_ticked t endings s passage) in
        rw (none, here) (omega (arith, gap_falls cycle hcycle may)))
      where
        turn_nearer : (x g h d e : ℕ) → 1 ≤ x → g ≤ x - 1 → 1 ≤ d → d < e → g + (d - 1) * x < h + (e - 1) * x
        turn_nearer x g h d e a b f l =
            let fewer : d ≤ e - 1 = omega arith in
            omega (arith, one_turn d x f, mul-le-mul_right x fewer)

    -- The rank falls at a tick that does not release the lane.
    pub rank_falls : get_or demand j 0 ≡ 1 → eqb k (j + 1) ≡ false → lanes_rank t c j after < lanes_rank t c j s
    unfolding lanes_rank
    rank_falls d miss =
        let p = nearer_due miss in
        by_test (leb (ready_in t c (lane_of s j)) 1)
        (λ e. let r = leb-true (ready_in t c (lane_of s j)) 1 e in
        rw (e, le-leb (ready_in t c (lane_of after j)) 1 (omega (arith, r, p))) (due_falls d r miss))
        (λ e. let r = leb-false _ _ e in
        by_test (leb (ready_in t c (lane_of after j)) 1)
        (λ f. rw (e, f) (at_last _ _ _ r (due_most t ok c true after j good_after chain_after hj (leb-true _ _ f))))
        (λ f. rw (e, f) (one_less _ _ _ r p (leb-false _ _ f))))
      where
        at_last : (r x y : ℕ) → 1 < r → x ≤ y → x < r - 1 + y
        at_last r x y p q = omega arith

        one_less : (r r' y : ℕ) → 1 < r → r' ≤ max 1 (r - 1) → 1 < r' → r' - 1 + y < r - 1 + y
        one_less r r' y p q l = omega arith
