-- What a tick, and the entering of metering, make of one lane.
use Prim.Native.Nat.{ℕ, zero, suc, ◌+◌, ◌≤◌, ◌<◌, min}
use mathlib.Core.Path.{◌≡◌, refl, ◌∙◌}
use mathlib.Core.Bool.{true, false, ◌&&◌, true≢false}
use mathlib.Core.List.{List}
use native.Mathlib.Omega.{arith}
use borrow.Author.Tests.{ltb-true, ltb-false, leb-true, leb-false, eqb-true, lt-ltb, le-ltb}
use lib.Dec.{ltb, leb, eqb}
use lib.ListN.{get_or}
use Rattle.loops.proofs.AnyLaws.{neither}
use Rattle.loops.proofs.Cases.{by_test}
use Rattle.timings.specs.declared.Timings.{Timings}
use Rattle.lanes.specs.declared.Lane.{Lane}
use Rattle.lanes.specs.declared.Lanes.{Lanes}
use Rattle.lanes.specs.declared.Ending.{Ending}
use Rattle.lanes.specs.declared.Ending.TheVariants.{Ordinary, Cut, Now}
use Rattle.lanes.specs.declared.Endings.{Endings}
use Rattle.lanes.specs.Intervals.{lane, rise_of, passages_of, green_ends, ends_by, green_at, yellow_at, lane_tick}
use Rattle.lanes.specs.Lanes.{lane_of, lanes_of, each_lane, ending_of, lane_tick_at, lanes_tick, lane_entered, lanes_entered}

pub rise_min : (x : ℕ) → rise_of x ≡ min (x + 1) 720
unfolding rise_of
rise_min x = by_test (ltb x 720) (λ e. rw e (omega (arith, ltb-true x 720 e))) (λ e. rw e (omega (arith, ltb-false x 720 e)))

pub passages_most : (count passage : ℕ) → count ≤ 3 → passages_of count passage ≤ 3
unfolding passages_of
passages_most count passage h =
    by_test (eqb passage 1)
    (λ e. by_test (ltb count 3) (λ f. rw (e, f) (omega (arith, ltb-true count 3 f))) (λ f. rw (e, f) h))
    (λ e. rw e h)

-- A rule by which no green reaches this age.
abbrev pub Within : Timings → ℕ → Ending → Type 0
Within t green ending = (age passages : ℕ) → ends_by t ending age passages ≡ false → age < green

-- By the ordinary rule none reaches the maximum, cut none the minimum, and ended now none any.
pub ordinary_within : (t : Timings) → Within t t.maxgreen Ordinary
unfolding green_ends
ordinary_within t age passages e = leb-false t.maxgreen age (neither (leb t.mingreen age && leb t.vehicles passages) (leb t.maxgreen age) e).1

pub cut_within : (t : Timings) → Within t t.mingreen Cut
cut_within t age passages e = leb-false t.mingreen age e

pub now_within : (t : Timings) (green : ℕ) → Within t green Now
now_within t green age passages e = absurd (true≢false e)

-- What a tick makes of a lane, by cases.
pub tick_cases : (t : Timings) (ending : Ending) (l : Lane) (passage : ℕ) (P : Lane → Type 0)
    → let age : ℕ = rise_of l.age in let count : ℕ = passages_of l.passages passage in
    (l.colour ≡ 3 → ends_by t ending age count ≡ true → P (lane 2 0 (rise_of l.counter) count))
    → (l.colour ≡ 3 → ends_by t ending age count ≡ false → P (lane 3 age (rise_of l.counter) count))
    → (l.colour ≡ 2 → t.yellow ≤ age → P (lane 1 0 (rise_of l.counter) l.passages))
    → (l.colour ≡ 2 → age < t.yellow → P (lane 2 age (rise_of l.counter) l.passages))
    → (eqb l.colour 3 ≡ false → eqb l.colour 2 ≡ false → P (lane l.colour age (rise_of l.counter) l.passages))
    → P (lane_tick t ending l passage)
unfolding lane_tick green_at yellow_at
tick_cases t ending l passage P a b c d e =
    let age = rise_of l.age in
    let count = passages_of l.passages passage in
    by_test (eqb l.colour 3)
    (λ h3. by_test (ends_by t ending age count)
    (λ h. rw (h3, h) (a (eqb-true _ _ h3) h))
    (λ h. rw (h3, h) (b (eqb-true _ _ h3) h)))
    (λ h3. by_test (eqb l.colour 2)
    (λ h2. by_test (leb t.yellow age)
    (λ h. rw (h3, h2, h) (c (eqb-true _ _ h2) (leb-true _ _ h)))
    (λ h. rw (h3, h2, h) (d (eqb-true _ _ h2) (leb-false _ _ h))))
    (λ h2. rw (h3, h2) (e h3 h2)))

pub tick_counter : (t : Timings) (ending : Ending) (l : Lane) (passage : ℕ) → (lane_tick t ending l passage).counter ≡ rise_of l.counter
tick_counter t ending l passage =
    tick_cases t ending l passage (λ m. m.counter ≡ rise_of l.counter) (λ _ _. refl) (λ _ _. refl) (λ _ _. refl) (λ _ _. refl) (λ _ _. refl)

-- One of the four lanes, after the tick and on entering metering.
pub each_lane_lem : (lanes : ℕ → Lane) (offset last i : ℕ) → i < 4 → lane_of (each_lane lanes offset last) i ≡ lanes i
unfolding lane_of lanes_of
each_lane_lem lanes offset last zero h = refl
each_lane_lem lanes offset last (suc zero) h = refl
each_lane_lem lanes offset last (suc (suc zero)) h = refl
each_lane_lem lanes offset last (suc (suc (suc zero))) h = refl
each_lane_lem lanes offset last (suc (suc (suc (suc i)))) h = absurd (omega arith)

pub lane_ticked : (t : Timings) (e : Endings) (s : Lanes) (passage : List ℕ) (i : ℕ) → i < 4
    → lane_of (lanes_tick t e s passage) i ≡ lane_tick_at t e s (get_or passage i 0) i
unfolding lanes_tick
lane_ticked t e s passage i h = each_lane_lem (λ i. lane_tick_at t e s (get_or passage i 0) i) (rise_of s.offset) s.last i h

pub lane_entered_lem : (n i : ℕ) → i < 4 → lane_of (lanes_entered n) i ≡ lane_entered n i
unfolding lanes_entered
lane_entered_lem n i h = each_lane_lem (lane_entered n) 720 n i h

module _ (t : Timings) (e : Endings) (s : Lanes) (passage : List ℕ) where
  -- A lane of the site ticks; another stays as it is.
  pub lane_in : (i : ℕ) → i < 4 → i < t.lanes → lane_of (lanes_tick t e s passage) i ≡ lane_tick t (ending_of e (i + 1)) (lane_of s i) (get_or passage i 0)
  unfolding lane_tick_at
  lane_in i h k = lane_ticked t e s passage i h ∙ rw (lt-ltb i t.lanes k)

  pub lane_out : (i : ℕ) → i < 4 → t.lanes ≤ i → lane_of (lanes_tick t e s passage) i ≡ lane_of s i
  unfolding lane_tick_at
  lane_out i h k = lane_ticked t e s passage i h ∙ rw (le-ltb i t.lanes k)

  pub offset_ticked : (lanes_tick t e s passage).offset ≡ rise_of s.offset
  unfolding lanes_tick lanes_of
  offset_ticked = refl

  pub last_ticked : (lanes_tick t e s passage).last ≡ s.last
  unfolding lanes_tick lanes_of
  last_ticked = refl

pub entered_in : (n i : ℕ) → i < 4 → i < n → lane_of (lanes_entered n) i ≡ lane 1 0 720 0
unfolding lane_entered
entered_in n i h k = lane_entered_lem n i h ∙ rw (lt-ltb i n k)

pub entered_out : (n i : ℕ) → i < 4 → n ≤ i → lane_of (lanes_entered n) i ≡ lane 0 0 0 0
unfolding lane_entered
entered_out n i h k = lane_entered_lem n i h ∙ rw (le-ltb i n k)

pub offset_entered : (n : ℕ) → (lanes_entered n).offset ≡ 720
unfolding lanes_entered lanes_of
offset_entered n = refl

pub last_entered : (n : ℕ) → (lanes_entered n).last ≡ n
unfolding lanes_entered lanes_of
last_entered n = refl
