-- How long a group takes, with the call on, until it is in pre-metering dark or green: a number that falls at each tick that does not bring
-- it there.
use Prim.Native.Nat.{ℕ, zero, suc, ◌+◌, ◌-◌, ◌≤◌, ◌<◌, max, min}
use mathlib.Core.Path.{◌≡◌, refl, sym, ◌∙◌}
use mathlib.Core.Bool.{Bool, true, false, cond, true≢false}
use mathlib.Core.List.{List}
use native.Mathlib.Omega.{arith}
use borrow.Author.Tests.{ltb-true, ltb-false, leb-false, le-leb}
use lib.Dec.{ltb, leb, eqb}
use Rattle.loops.proofs.AnyLaws.{neither}
use Rattle.loops.proofs.Cases.{by_test}
use Rattle.timings.specs.declared.Timings.{Timings}
use Rattle.site.proofs.TimingLaws.{TimingsGood}
use Rattle.inputs.specs.declared.Metered.{Metered}
use Rattle.inputs.specs.declared.Calls.{Calls}
use Rattle.wanted.specs.declared.wish.Wish.{Wish}
use Rattle.lanes.specs.declared.Lanes.{Lanes}
use Rattle.lanes.specs.declared.Endings.{Endings}
use Rattle.lanes.specs.Lanes.{ending_of, lanes_entered}
use Rattle.lanes.proofs.LaneLaws.{Within}
use Rattle.release.proofs.ReleaseLaws.{none_released}
use Rattle.bypass.specs.declared.Bypass.{Bypass}
use Rattle.bypass.specs.Lanes.{has_passed, endings_of}
use Rattle.bypass.proofs.BypassLaws.{kept_metering, within_maximum}
use Rattle.group.specs.declared.Group.{Group}
use Rattle.group.specs.Intervals.{age_of, time_of, successor_of, next_interval}
use Rattle.group.specs.Preemption.{is_pre_metering, is_held, steered_wish}
use Rattle.group.specs.Group.{all_red, ordinary_interval, interval_of, bypass_in, lanes_in, released_in, group_of, lanes_moved, moved_with, moved_of}
use Rattle.group.proofs.IntervalLaws.{is_own, lanes_cases}
use Rattle.group.proofs.RangeLaws.{LanesGood, GroupGood}
use Rattle.group.proofs.SearchLaws.{by_search, none_on_entering}
use Rattle.preemption.specs.Clearing.{clearing_ticks}
use Rattle.preemption.proofs.LanesRed.{all_red_in, lanes_red_most, lanes_red_fall, entered_red, some_lane}

-- Ticks, the present one included, that an interval of this time still runs.
abbrev left : ℕ → ℕ → ℕ
left time age = max 1 (time - age)

-- Ticks, the present one included, until the group is in pre-metering dark or green, from this interval at this age, with lanes that are
-- all red in so many ticks.
clear_in : Timings → ℕ → ℕ → ℕ → ℕ
clear_in t interval age red =
    cond (eqb interval 0) (left 50 age)
    (cond (eqb interval 3) (left t.warning age + t.startgreen + t.startyellow + t.startred + 2 + t.shutdown)
    (cond (eqb interval 4) (left t.startgreen age + t.startyellow + t.startred + 2 + t.shutdown)
    (cond (eqb interval 5) (left t.startyellow age + t.startred + 2 + t.shutdown)
    (cond (eqb interval 6) (left t.startred age + 2 + t.shutdown)
    (cond (eqb interval 7) (max 1 red + 1 + t.shutdown)
    (cond (eqb interval 8) (red + 1 + t.shutdown)
    (cond (eqb interval 9) (left t.shutdown age) 1)))))))

pub group_clear_in : Timings → Group → ℕ
group_clear_in t g = clear_in t g.interval g.age (all_red_in t g.lanes)

age_min : (age : ℕ) → age_of age ≡ min (age + 1) 36000
unfolding age_of
age_min age = by_test (ltb age 36000) (λ e. rw e (omega (arith, ltb-true age 36000 e))) (λ e. rw e (omega (arith, ltb-false age 36000 e)))

-- An interval whose time is not up has a tick less to run.
one_less : (time age : ℕ) → time ≤ 600 → leb time (age_of age) ≡ false → left time (age_of age) < left time age
one_less time age h e = omega (arith, age_min age, leb-false time (age_of age) e)

module _ (t : Timings) (ok : TimingsGood t) (wish : Wish) (passage : List ℕ) where
  -- A tick with the call on brings the group there or nearer: where no lane is released, and no green reaches the maximum outside metering.
  abbrev Nearer : Endings → Group → Type 0
  Nearer endings g =
      let now : ℕ = interval_of t 1 wish g in
      (eqb now 7 ≡ false → (k : ℕ) → Within t t.maxgreen (ending_of endings k))
      → is_pre_metering now ≡ false
      → clear_in t now (cond (eqb now g.interval) (age_of g.age) 0) (all_red_in t (lanes_in t endings passage g.interval now g.lanes))
      < clear_in t g.interval g.age (all_red_in t g.lanes)

  step : (endings : Endings) (i age : ℕ) (s : Lanes) (b : Bypass) → i ≤ 9 → LanesGood (is_own i) s t.lanes
      → Nearer endings (record { interval = i; age = age; lanes = s; bypass = b })
  unfolding lanes_in interval_of ordinary_interval next_interval time_of successor_of is_held is_pre_metering steered_wish clear_in
  step endings zero age s b h v =
      by_test (leb 50 (age_of age)) (λ e. rw e (λ _ f. absurd (true≢false f))) (λ e. rw e (λ _ _. omega (arith, one_less 50 age (omega arith) e)))
  step endings (suc zero) age s b h v = λ _ f. absurd (true≢false f)
  step endings (suc (suc zero)) age s b h v = λ _ f. absurd (true≢false f)
  step endings (suc (suc (suc zero))) age s b h v =
      by_test (leb t.warning (age_of age))
      (λ e. rw e (λ _ _. omega (arith, ok.startgreen)))
      (λ e. rw e (λ _ _. omega (arith, one_less t.warning age ok.warning.1 e)))
  step endings (suc (suc (suc (suc zero)))) age s b h v =
      by_test (leb t.startgreen (age_of age))
      (λ e. rw e (λ _ _. omega (arith, ok.startyellow)))
      (λ e. rw e (λ _ _. omega (arith, one_less t.startgreen age ok.startgreen.1 e)))
  step endings (suc (suc (suc (suc (suc zero))))) age s b h v =
      by_test (leb t.startyellow (age_of age))
      (λ e. rw e (λ _ _. omega (arith, ok.startred)))
      (λ e. rw e (λ _ _. omega (arith, one_less t.startyellow age (omega (arith, ok.startyellow)) e)))
  step endings (suc (suc (suc (suc (suc (suc zero)))))) age s b h v =
      by_test (leb t.startred (age_of age))
      (λ e. rw (e, entered_red t ok) (λ _ _. omega arith))
      (λ e. rw e (λ _ _. omega (arith, one_less t.startred age ok.startred.1 e)))
  step endings (suc (suc (suc (suc (suc (suc (suc zero))))))) age s b h v =
      rw (le-leb 0 (age_of age) (omega arith)) (λ within _. omega (arith, lanes_red_fall t ok endings (within refl) s passage))
  step endings (suc (suc (suc (suc (suc (suc (suc (suc zero)))))))) age s b h v =
      by_test (all_red s t.lanes)
      (λ e. rw (le-leb 0 (age_of age) (omega arith), e) (λ _ _. omega (arith, ok.shutdown)))
      (λ e. rw (le-leb 0 (age_of age) (omega arith), e) (λ within _. omega (arith, lanes_red_fall t ok endings (within refl) s passage, some_lane t ok s v e)))
  step endings (suc (suc (suc (suc (suc (suc (suc (suc (suc zero))))))))) age s b h v =
      by_test (leb t.shutdown (age_of age))
      (λ e. rw e (λ _ f. absurd (true≢false f)))
      (λ e. rw e (λ _ _. omega (arith, one_less t.shutdown age ok.shutdown.1 e)))
  step endings (suc (suc (suc (suc (suc (suc (suc (suc (suc (suc i)))))))))) age s b h v = absurd (omega arith)

module _ (t : Timings) (ok : TimingsGood t) (call : ℕ) (wish : Wish) (cycle : ℕ) (samples : Metered) (g : Group) (v : GroupGood g t.lanes t.priority) where
  -- The call is on; a bus may call too.
  abbrev calls : Calls
  calls = record { preemption = 1; bypass = call }

  abbrev now : ℕ
  now = interval_of t 1 wish g

  abbrev bypass : Bypass
  bypass = bypass_in t call samples.passage now g

  abbrev endings : Endings
  endings = endings_of t g.bypass bypass

  -- A bypass is kept in metering alone,
  not_kept : (k : ℕ) → eqb k 7 ≡ false → (bypass_in t call samples.passage k g).kept ≡ false
  unfolding bypass_in
  not_kept k e =
      let b = bypass_in t call samples.passage k g in
      by_test b.kept
      (λ f. absurd (true≢false (sym (kept_metering t (eqb k 7) call (has_passed t g.lanes samples.passage) g.bypass f) ∙ e))) (λ f. f)

  -- and no lane is released: metering is entered at the most.
  none_released_there : released_in t bypass.kept cycle samples.demand now (lanes_in t endings samples.passage g.interval now g.lanes) ≡ 0
  unfolding steered_wish
  none_released_there =
      lanes_cases t 1 wish endings samples.passage g v.interval
      (λ k s. released_in t (bypass_in t call samples.passage k g).kept cycle samples.demand k s ≡ 0)
      (λ _ f. absurd (omega arith))
      (λ _. on_entry _)
      (λ _. outside 8 _ refl)
      (λ k _ o _. outside k _ (neither (eqb k 7) (eqb k 8) o).0)
    where
      on_entry : (kept : Bool) → released_in t kept cycle samples.demand 7 (lanes_entered t.lanes) ≡ 0
      on_entry = none_on_entering t ok.lanes_least ok.priority_most ok.lanes_most (omega (arith, ok.red_least)) cycle samples.demand

      outside : (k : ℕ) (s : Lanes) → eqb k 7 ≡ false → released_in t (bypass_in t call samples.passage k g).kept cycle samples.demand k s ≡ 0
      outside k s e = by_search t cycle samples.demand k s _ (not_kept k e) ∙ rw e

  pub clear_falls : is_pre_metering (moved_of t calls wish cycle samples g).group.interval ≡ false
      → group_clear_in t (moved_of t calls wish cycle samples g).group < group_clear_in t g
  unfolding moved_of moved_with group_of lanes_moved group_clear_in
  clear_falls e =
      rw (none_released_there, none_released _ 0 refl)
      (step t ok wish samples.passage endings g.interval g.age g.lanes g.bypass v.interval v.lanes
      (λ f. within_maximum t g.bypass bypass (not_kept now f)) e)

-- It is some tick, and no more than the bound.
module _ (t : Timings) (ok : TimingsGood t) where
  within_bound : (i age red : ℕ) → i ≤ 9 → red ≤ t.maxgreen + t.yellow → (1 ≤ clear_in t i age red) × (clear_in t i age red ≤ clearing_ticks t)
  unfolding clear_in clearing_ticks
  within_bound zero age red h r = (omega arith, omega (arith, ok.warning, ok.startgreen, ok.startyellow, ok.startred, ok.shutdown))
  within_bound (suc zero) age red h r = (omega arith, omega arith)
  within_bound (suc (suc zero)) age red h r = (omega arith, omega arith)
  within_bound (suc (suc (suc zero))) age red h r = (omega arith, omega (arith, ok.warning))
  within_bound (suc (suc (suc (suc zero)))) age red h r = (omega arith, omega (arith, ok.startgreen))
  within_bound (suc (suc (suc (suc (suc zero))))) age red h r = (omega arith, omega (arith, ok.startyellow))
  within_bound (suc (suc (suc (suc (suc (suc zero)))))) age red h r = (omega arith, omega (arith, ok.startred))
  within_bound (suc (suc (suc (suc (suc (suc (suc zero))))))) age red h r = (omega arith, omega (arith, ok.yellow_least))
  within_bound (suc (suc (suc (suc (suc (suc (suc (suc zero)))))))) age red h r = (omega arith, omega (arith, ok.yellow_least))
  within_bound (suc (suc (suc (suc (suc (suc (suc (suc (suc zero))))))))) age red h r = (omega arith, omega (arith, ok.shutdown))
  within_bound (suc (suc (suc (suc (suc (suc (suc (suc (suc (suc i)))))))))) age red h r = absurd (omega arith)

  pub clear_within : (priority : ℕ) (g : Group) → GroupGood g t.lanes priority → (1 ≤ group_clear_in t g) × (group_clear_in t g ≤ clearing_ticks t)
  unfolding group_clear_in
  clear_within priority g v = within_bound g.interval g.age (all_red_in t g.lanes) v.interval (lanes_red_most t ok g.lanes)
