-- How long one lane still takes until it is ready, and how long it stays green; a tick shortens both.
use Prim.Native.Nat.{ℕ, ◌+◌, ◌-◌, ◌≤◌, ◌<◌, max}
use mathlib.Core.Path.{◌≡◌}
use mathlib.Core.Bool.{true, false, cond}
use native.Mathlib.Omega.{arith}
use borrow.Author.Tests.{eqb-false, eq-eqb, ne_eqb}
use lib.Dec.{eqb}
use Rattle.timings.specs.declared.Timings.{Timings}
use Rattle.lanes.specs.declared.Lane.{Lane}
use Rattle.lanes.specs.declared.Ending.{Ending}
use Rattle.lanes.specs.Intervals.{rise_of, lane_tick}
use Rattle.loops.proofs.Cases.{by_test}
use Rattle.lanes.proofs.LaneLaws.{Within, rise_min, tick_cases, tick_counter}
use Rattle.lanes.proofs.RedLaws.{red_in, red_falls}
use Rattle.group.proofs.RangeLaws.{LaneGood}

-- The timings of a site that is not spoilt, as far as waiting goes.
pub record Sound (t : Timings) : Type 0 where
  pub least : 1 ≤ t.lanes
  pub most : t.lanes ≤ 4
  pub some_green : 2 ≤ t.maxgreen
  pub green : t.maxgreen ≤ 720
  pub some_yellow : 1 ≤ t.yellow
  pub yellow : t.yellow ≤ 720
  pub some_red : 2 ≤ t.minred
  pub red : t.minred ≤ 720

-- Ticks, the present one included, until a lane in demand is ready, whatever the cycle up to c; 1 where it is so at the present tick.
unfoldable pub ready_in : Timings → ℕ → Lane → ℕ
ready_in t c l = max 1 (max (c - l.counter) (red_in t t.maxgreen t.minred l))

max_parts : (a b : ℕ) → max 1 (max a b) ≤ 1 → (a ≤ 1) × (b ≤ 1)
max_parts a b h = (omega arith, omega arith)

pub due_parts : (t : Timings) (c : ℕ) (l : Lane) → ready_in t c l ≤ 1 → (c - l.counter ≤ 1) × (red_in t t.maxgreen t.minred l ≤ 1)
unfolding ready_in
due_parts t c l r = max_parts (c - l.counter) (red_in t t.maxgreen t.minred l) r

-- A lane that is due is neither green nor yellow.
due_green : (t : Timings) → Sound t → (l : Lane) → red_in t t.maxgreen t.minred l ≤ 1 → eqb l.colour 3 ≡ true → ⊥
unfolding red_in
due_green t ok l r e = let y = rw e at r in omega (arith, ok.some_red)

due_yellow : (t : Timings) → Sound t → (l : Lane) → red_in t t.maxgreen t.minred l ≤ 1 → eqb l.colour 3 ≡ false → eqb l.colour 2 ≡ true → ⊥
unfolding red_in
due_yellow t ok l r e f = let y = rw (e, f) at r in omega (arith, ok.some_red)

due_red : (t : Timings) (l : Lane) → red_in t t.maxgreen t.minred l ≤ 1 → eqb l.colour 3 ≡ false → eqb l.colour 2 ≡ false → t.minred ≤ l.age + 1
unfolding red_in
due_red t l r e f = let y = rw (e, f) at r in omega arith

-- Ticks, the present one not included, that the lane stays green at the most.
unfoldable pub green_for : Timings → Lane → ℕ
green_for t l = cond (eqb l.colour 3) (t.maxgreen - l.age - 1) 0

counter_falls : (c x : ℕ) → c ≤ 720 → c - rise_of x ≤ c - x - 1
counter_falls c x h = omega (arith, rise_min x)

both_fall : (a b x y : ℕ) → a ≤ x - 1 → b ≤ y - 1 → max a b ≤ max x y - 1
both_fall a b x y h k = omega arith

one_falls : (x y : ℕ) → x ≤ y - 1 → max 1 x ≤ max 1 (max 1 y - 1)
one_falls x y h = omega arith

module _ (t : Timings) (ok : Sound t) (ending : Ending) (l : Lane) (passage : ℕ) where
  abbrev after : Lane
  after = lane_tick t ending l passage

  pub ready_falls : Within t t.maxgreen ending → (c : ℕ) → c ≤ 720 → ready_in t c after ≤ max 1 (ready_in t c l - 1)
  unfolding ready_in
  ready_falls within c h =
      let count : c - after.counter ≤ c - l.counter - 1 = rw (tick_counter t ending l passage) (counter_falls c l.counter h) in
      one_falls _ _ (both_fall _ _ _ _ count (red_falls t ending t.maxgreen t.minred within ok.green ok.some_yellow ok.yellow ok.red l passage))

  -- However its green ends, it has been red its minimum in less than a whole green, yellow and red,
  red_soon : red_in t t.maxgreen t.minred after ≤ t.maxgreen + t.yellow + t.minred - 1
  unfolding red_in
  red_soon =
      let r = rise_min l.age in
      tick_cases t ending l passage (λ m. red_in t t.maxgreen t.minred m ≤ t.maxgreen + t.yellow + t.minred - 1)
      (λ e h. omega (arith, ok.some_green, ok.some_yellow))
      (λ e h. omega (arith, r, ok.some_green, ok.some_yellow))
      (λ e h. omega (arith, ok.some_green))
      (λ e h. omega (arith, r, ok.some_green))
      (λ n3 n2. rw (n3, n2) (omega (arith, ok.some_green)))

  -- and is ready in less than that or the cycle.
  pub ready_soon : (c : ℕ) → ready_in t c after ≤ max c (t.maxgreen + t.yellow + t.minred) - 1
  unfolding ready_in
  ready_soon c =
      less c (c - after.counter) (red_in t t.maxgreen t.minred after) (t.maxgreen + t.yellow + t.minred)
      (rw (tick_counter t ending l passage) (counted l.counter)) red_soon (omega (arith, ok.some_green, ok.some_red))
    where
      counted : (x : ℕ) → c - rise_of x ≤ c - 1
      counted x = omega (arith, rise_min x)

      less : (c a b w : ℕ) → a ≤ c - 1 → b ≤ w - 1 → 2 ≤ w → max 1 (max a b) ≤ max c w - 1
      less c a b w p q m = omega arith

  -- A lane that is still green had a tick left, and has one less.
  pub green_falls : Within t t.maxgreen ending → after.colour ≡ 3 → green_for t after < green_for t l
  unfolding green_for
  green_falls within =
      let r = rise_min l.age in
      tick_cases t ending l passage (λ m. m.colour ≡ 3 → green_for t m < green_for t l)
      (λ c h e. absurd (omega arith))
      (λ c h e. rw c (omega (arith, r, ok.green, within _ _ h)))
      (λ c h e. absurd (omega arith))
      (λ c h e. absurd (omega arith))
      (λ n3 n2 e. absurd (eqb-false l.colour 3 n3 e))

  -- A green lane was green,
  pub was_green : after.colour ≡ 3 → l.colour ≡ 3
  was_green =
      tick_cases t ending l passage (λ m. m.colour ≡ 3 → l.colour ≡ 3)
      (λ c h e. c) (λ c h e. c) (λ c h e. absurd (omega arith)) (λ c h e. absurd (omega arith)) (λ n3 n2 e. e)

  -- and one that has been red a while was red.
  pub was_red : after.colour ≡ 1 → t.minred ≤ after.age → l.colour ≡ 1
  was_red =
      tick_cases t ending l passage (λ m. m.colour ≡ 1 → t.minred ≤ m.age → l.colour ≡ 1)
      (λ c h e a. absurd (omega arith)) (λ c h e a. absurd (omega arith)) (λ c h e a. absurd (omega (arith, ok.some_red)))
      (λ c h e a. absurd (omega arith)) (λ n3 n2 e a. e)

  -- A lane that is due at this tick is red after it, its minimum and c ticks from its last green's start.
  pub due : (c : ℕ) → c ≤ 720 → LaneGood true l → ready_in t c l ≤ 1
      → (after.colour ≡ 1) × ((t.minred ≤ after.age) × (c ≤ after.counter))
  due c h v r =
      let p = due_parts t c l r in
      tick_cases t ending l passage (λ m. (m.colour ≡ 1) × ((t.minred ≤ m.age) × (c ≤ m.counter)))
      (λ e k. absurd (due_green t ok l p.1 (eq-eqb l.colour 3 e)))
      (λ e k. absurd (due_green t ok l p.1 (eq-eqb l.colour 3 e)))
      (λ e k. absurd (due_yellow t ok l p.1 (ne_eqb l.colour 3 (λ z. omega arith)) (eq-eqb l.colour 2 e)))
      (λ e k. absurd (due_yellow t ok l p.1 (ne_eqb l.colour 3 (λ z. omega arith)) (eq-eqb l.colour 2 e)))
      (λ n3 n2. (
        omega (arith, eqb-false l.colour 3 n3, eqb-false l.colour 2 n2, v.least, v.most),
        (aged (due_red t l p.1 n3 n2), counted p.0),
      ))
    where
      aged : t.minred ≤ l.age + 1 → t.minred ≤ rise_of l.age
      aged k = omega (arith, rise_min l.age, ok.red)

      counted : c - l.counter ≤ 1 → c ≤ rise_of l.counter
      counted k = omega (arith, rise_min l.counter)

-- At the worst the lane has just turned green.
pub ready_in_most : (t : Timings) → Sound t → (c : ℕ) (l : Lane) → ready_in t c l ≤ max c (t.maxgreen + t.yellow + t.minred)
unfolding ready_in red_in
ready_in_most t ok c l =
    by_test (eqb l.colour 3)
    (λ e. rw e (omega (arith, ok.some_green)))
    (λ e. by_test (eqb l.colour 2) (λ f. rw (e, f) (omega (arith, ok.some_green, ok.some_yellow))) (λ f. rw (e, f) (omega (arith, ok.some_green))))

-- A lane that is due is not green.
pub due_not_green : (t : Timings) → Sound t → (c : ℕ) (l : Lane) → ready_in t c l ≤ 1 → green_for t l ≡ 0
unfolding green_for
due_not_green t ok c l r =
    by_test (eqb l.colour 3) (λ e. absurd (due_green t ok l (due_parts t c l r).1 e)) (λ e. rw e)

pub green_most : (t : Timings) (l : Lane) → green_for t l ≤ t.maxgreen - 1
unfolding green_for
green_most t l = by_test (eqb l.colour 3) (λ e. rw e (omega arith)) (λ e. rw e (omega arith))
