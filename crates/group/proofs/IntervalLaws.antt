-- Where a tick leads from each interval, and what it makes of the lanes.
use Prim.Native.Nat.{ℕ, zero, suc, ◌*◌, ◌≤◌}
use mathlib.Core.Path.{◌≡◌, refl, sym, ◌∙◌}
use mathlib.Core.Bool.{Bool, true, false, cond, ◌||◌, true≢false}
use mathlib.Core.List.{List}
use native.Mathlib.Omega.{arith}
use borrow.Author.Tests.{ltb-true, eqb-true, eqb-false, le-leb}
use lib.Dec.{ltb, leb, eqb}
use Rattle.wanted.specs.declared.wish.Wish.{Wish}
use Rattle.wanted.specs.declared.wish.Wish.TheVariants.{Dark, Green, Metering, Clear}
use Rattle.timings.specs.declared.Timings.{Timings}
use Rattle.lanes.specs.declared.Lanes.{Lanes}
use Rattle.lanes.specs.declared.Endings.{Endings}
use Rattle.lanes.specs.Lanes.{lanes_tick, lanes_entered}
use Rattle.loops.proofs.Cases.{by_test}
use Rattle.group.specs.declared.Group.{Group}
use Rattle.group.specs.Intervals.{age_of, time_of, from_dark, from_green, from_metering, successor_of, next_interval}
use Rattle.group.specs.Preemption.{is_pre_metering, is_held, steered_wish}
use Rattle.group.specs.Group.{all_red, ordinary_interval, interval_of, lanes_in}

-- The intervals in which lanes show their own colours.
abbrev pub is_own : ℕ → Bool
is_own interval = eqb interval 7 || eqb interval 8

pub seven_is_own : {k : ℕ} → k ≡ 7 → is_own k ≡ false → ⊥
seven_is_own e o = true≢false (rw e at o)

pub age_most : (age : ℕ) → age_of age ≤ 36000
unfolding age_of
age_most age = by_test (ltb age 36000) (λ e. rw e (omega (arith, ltb-true age 36000 e))) (λ e. rw e (omega arith))

-- What a tick does to the interval: 7 is kept by a wish of metering alone; 8 is entered from 7; and from 7 and 8 another is entered only
-- with all lanes red.
pub record Leads (wish : Wish) (red : Bool) (before now : ℕ) : Type 0 where
  pub most : now ≤ 9
  pub to_seven : now ≡ 7 → before ≡ 7 → from_metering wish ≡ 7
  pub to_eight : now ≡ 8 → is_own before ≡ true
  pub to_other : is_own now ≡ false → is_own before ≡ true → red ≡ true

other : (wish : Wish) (red : Bool) (before now : ℕ) → is_own before ≡ false → now ≤ 9 → eqb now 8 ≡ false → Leads wish red before now
other wish red before now o h e = record {
  most = h;
  to_seven = λ _ b. absurd (true≢false (rw b at o));
  to_eight = λ b. absurd (eqb-false now 8 e b);
  to_other = λ _ b. absurd (true≢false (sym b ∙ o));
}

-- Where dark and green lead.
from_dark_lem : (wish : Wish) → (from_dark wish ≤ 9) × (eqb (from_dark wish) 8 ≡ false)
from_dark_lem Dark = (omega arith, refl)
from_dark_lem Green = (omega arith, refl)
from_dark_lem (Metering rate) = (omega arith, refl)
from_dark_lem Clear = (omega arith, refl)

from_green_lem : (wish : Wish) (over : Bool) → (from_green wish over ≤ 9) × (eqb (from_green wish over) 8 ≡ false)
from_green_lem Dark over = (omega arith, refl)
from_green_lem Green over = (omega arith, refl)
from_green_lem (Metering rate) over = (omega arith, refl)
from_green_lem Clear true = (omega arith, refl)
from_green_lem Clear false = (omega arith, refl)

from_metering_lem : (wish : Wish) (red : Bool) → Leads wish red 7 (from_metering wish)
from_metering_lem Dark red = record { most = omega arith; to_seven = λ e _. absurd (omega arith); to_eight = λ _. refl; to_other = λ e _. absurd (true≢false e) }
from_metering_lem Green red = record { most = omega arith; to_seven = λ e _. absurd (omega arith); to_eight = λ _. refl; to_other = λ e _. absurd (true≢false e) }
from_metering_lem (Metering rate) red = record { most = omega arith; to_seven = λ e _. refl; to_eight = λ _. refl; to_other = λ e _. absurd (true≢false e) }
from_metering_lem Clear red = record { most = omega arith; to_seven = λ e _. absurd (omega arith); to_eight = λ _. refl; to_other = λ e _. absurd (true≢false e) }

from_closing : (wish : Wish) (red : Bool) → Leads wish red 8 (cond red 9 8)
from_closing wish true = record { most = omega arith; to_seven = λ e _. absurd (omega arith); to_eight = λ _. refl; to_other = λ _ _. refl }
from_closing wish false = record { most = omega arith; to_seven = λ e _. absurd (omega arith); to_eight = λ _. refl; to_other = λ e _. absurd (true≢false e) }

pub leads : (t : Timings) (wish : Wish) (age : ℕ) (red : Bool) (i : ℕ) → i ≤ 9 → Leads wish red i (next_interval t wish age red i)
unfolding next_interval time_of successor_of
leads t wish age red zero h = by_test (leb 50 age) (λ e. rw e (other _ _ _ _ refl (omega arith) refl)) (λ e. rw e (other _ _ _ _ refl (omega arith) refl))
leads t wish age red (suc zero) h =
    by_test (leb 0 age) (λ e. rw e (other _ _ _ _ refl (from_dark_lem wish).0 (from_dark_lem wish).1)) (λ e. rw e (other _ _ _ _ refl (omega arith) refl))
leads t wish age red (suc (suc zero)) h =
    let w = from_green_lem wish (leb (600 * t.maxpregreen) age) in
    by_test (leb t.minpregreen age) (λ e. rw e (other _ _ _ _ refl w.0 w.1)) (λ e. rw e (other _ _ _ _ refl (omega arith) refl))
leads t wish age red (suc (suc (suc zero))) h =
    by_test (leb t.warning age) (λ e. rw e (other _ _ _ _ refl (omega arith) refl)) (λ e. rw e (other _ _ _ _ refl (omega arith) refl))
leads t wish age red (suc (suc (suc (suc zero)))) h =
    by_test (leb t.startgreen age) (λ e. rw e (other _ _ _ _ refl (omega arith) refl)) (λ e. rw e (other _ _ _ _ refl (omega arith) refl))
leads t wish age red (suc (suc (suc (suc (suc zero))))) h =
    by_test (leb t.startyellow age) (λ e. rw e (other _ _ _ _ refl (omega arith) refl)) (λ e. rw e (other _ _ _ _ refl (omega arith) refl))
leads t wish age red (suc (suc (suc (suc (suc (suc zero)))))) h =
    by_test (leb t.startred age) (λ e. rw e (other _ _ _ _ refl (omega arith) refl)) (λ e. rw e (other _ _ _ _ refl (omega arith) refl))
leads t wish age red (suc (suc (suc (suc (suc (suc (suc zero))))))) h = rw (le-leb 0 age (omega arith)) (from_metering_lem wish red)
leads t wish age red (suc (suc (suc (suc (suc (suc (suc (suc zero)))))))) h = rw (le-leb 0 age (omega arith)) (from_closing wish red)
leads t wish age red (suc (suc (suc (suc (suc (suc (suc (suc (suc zero))))))))) h =
    by_test (leb t.shutdown age) (λ e. rw e (other _ _ _ _ refl (omega arith) refl)) (λ e. rw e (other _ _ _ _ refl (omega arith) refl))
leads t wish age red (suc (suc (suc (suc (suc (suc (suc (suc (suc (suc i)))))))))) h = absurd (omega arith)

-- An interval that is held is pre-metering dark or green,
held_cases : (P : ℕ → Type 0) (preemption i : ℕ) → is_held preemption i ≡ true → P 1 → P 2 → P i
unfolding is_held is_pre_metering
held_cases P preemption i e a b =
    by_test (eqb preemption 1)
    (λ p. by_test (eqb i 1)
    (λ f. rw (eqb-true i 1 f) a)
    (λ f. rw (eqb-true i 2 (rw (p, f) at e)) b))
    (λ p. absurd (true≢false (sym (rw p at e))))

-- and what is held leads nowhere.
leads_held : (wish : Wish) (red : Bool) (preemption i : ℕ) → is_held preemption i ≡ true → Leads wish red i i
leads_held wish red preemption i e =
    held_cases (λ k. Leads wish red k k) preemption i e (other _ _ _ _ refl (omega arith) refl) (other _ _ _ _ refl (omega arith) refl)

pub leads_on : (t : Timings) (preemption : ℕ) (wish : Wish) (g : Group) → g.interval ≤ 9
    → Leads (steered_wish preemption wish) (all_red g.lanes t.lanes) g.interval (interval_of t preemption wish g)
unfolding interval_of ordinary_interval
leads_on t preemption wish g h =
    by_test (is_held preemption g.interval)
    (λ e. rw e (leads_held _ _ preemption g.interval e))
    (λ e. rw e (leads t (steered_wish preemption wish) (age_of g.age) (all_red g.lanes t.lanes) g.interval h))

-- The lanes as a tick's lane intervals leave them, by cases.
module _ (t : Timings) (endings : Endings) (passage : List ℕ) (wish : Wish) (before : ℕ) (s : Lanes) (P : ℕ → Lanes → Type 0) where
  cases : (now : ℕ) → Leads wish (all_red s t.lanes) before now
      → (before ≡ 7 → from_metering wish ≡ 7 → P 7 (lanes_tick t endings s passage))
      → (eqb before 7 ≡ false → P 7 (lanes_entered t.lanes))
      → (is_own before ≡ true → P 8 (lanes_tick t endings s passage))
      → ((k : ℕ) → k ≤ 9 → is_own k ≡ false → (is_own before ≡ true → all_red s t.lanes ≡ true) → P k s)
      → P now (lanes_in t endings passage before now s)
  unfolding lanes_in
  cases now w a b c d =
      by_test (eqb now 7)
      (λ e. let q = eqb-true now 7 e in
      rw q (by_test (eqb before 7)
      (λ f. rw f (a (eqb-true before 7 f) (w.to_seven q (eqb-true before 7 f))))
      (λ f. rw f (b f))))
      (λ e. by_test (eqb now 8)
      (λ f. let q = eqb-true now 8 f in rw q (c (w.to_eight q)))
      (λ f. rw (e, f) (d now w.most (rw (e, f)) (w.to_other (rw (e, f))))))

module _ (t : Timings) (preemption : ℕ) (wish : Wish) (endings : Endings) (passage : List ℕ) (g : Group) (h : g.interval ≤ 9) (P : ℕ → Lanes → Type 0) where
  pub lanes_cases : (g.interval ≡ 7 → from_metering (steered_wish preemption wish) ≡ 7 → P 7 (lanes_tick t endings g.lanes passage))
      → (eqb g.interval 7 ≡ false → P 7 (lanes_entered t.lanes))
      → (is_own g.interval ≡ true → P 8 (lanes_tick t endings g.lanes passage))
      → ((k : ℕ) → k ≤ 9 → is_own k ≡ false → (is_own g.interval ≡ true → all_red g.lanes t.lanes ≡ true) → P k g.lanes)
      → P (interval_of t preemption wish g) (lanes_in t endings passage g.interval (interval_of t preemption wish g) g.lanes)
  lanes_cases a b c d =
      cases t endings passage (steered_wish preemption wish) g.interval g.lanes P _ (leads_on t preemption wish g h) a b c d
