-- What the fire service's call makes of the interval, in the request's own words.
use Prim.Native.Nat.{ℕ, zero, suc, ◌≤◌, ◌<◌}
use mathlib.Core.Path.{◌≡◌, refl, ◌∙◌, ap}
use mathlib.Core.Bool.{true, false}
use native.Mathlib.Omega.{arith}
use borrow.Author.Tests.{ne_eqb, le-leb, lt-leb}
use lib.Dec.{leb, eqb}
use Rattle.wanted.specs.declared.wish.Wish.{Wish}
use Rattle.wanted.specs.declared.wish.Wish.TheVariants.{Clear}
use Rattle.timings.specs.declared.Timings.{Timings}
use Rattle.loops.proofs.AnyLaws.{neither}
use Rattle.group.specs.declared.Group.{Group}
use Rattle.group.specs.Intervals.{age_of, time_of, successor_of, next_interval}
use Rattle.group.specs.Preemption.{is_pre_metering, is_held, steered_wish}
use Rattle.group.specs.Group.{ordinary_interval, interval_of}
use Rattle.group.specs.Steered.{Preempted, Steered}

-- Pre-metering dark and green are the intervals from 1 to 2.
pub not_pre_metering : (k : ℕ) → k < 1 → is_pre_metering k ≡ false
unfolding is_pre_metering
not_pre_metering zero h = refl
not_pre_metering (suc k) h = absurd (omega arith)

pub from_dark_to_green : (k : ℕ) → 1 ≤ k → leb k 2 ≡ is_pre_metering k
unfolding is_pre_metering
from_dark_to_green zero h = absurd (omega arith)
from_dark_to_green (suc zero) h = refl
from_dark_to_green (suc (suc zero)) h = refl
from_dark_to_green (suc (suc (suc k))) h =
    let j = suc (suc (suc k)) in
    rw (lt-leb j 2 (omega arith), ne_eqb j 1 (λ z. omega arith), ne_eqb j 2 (λ z. omega arith))

-- Where the interval is neither of these nor metering, no wish is looked at.
no_wish : (t : Timings) (a b : Wish) (g : Group) → is_pre_metering g.interval ≡ false → (g.interval ≡ 7 → ⊥) → ordinary_interval t a g ≡ ordinary_interval t b g
unfolding ordinary_interval next_interval successor_of is_pre_metering
no_wish t a b g e f =
    let p = neither (eqb g.interval 1) (eqb g.interval 2) e in
    rw (p.0, p.1, ne_eqb g.interval 7 f)

module _ (t : Timings) (wish : Wish) (g : Group) where
  pub stays_held : is_pre_metering g.interval ≡ true → interval_of t 1 wish g ≡ g.interval
  unfolding interval_of is_held
  stays_held e = rw e

  held_at : (k : ℕ) → is_pre_metering k ≡ true → g.interval ≡ k → interval_of t 1 wish g ≡ k
  held_at k e q = stays_held (ap is_pre_metering q ∙ e) ∙ q

  closes : g.interval ≡ 7 → interval_of t 1 wish g ≡ 8
  unfolding interval_of is_held is_pre_metering steered_wish ordinary_interval next_interval time_of successor_of
  closes q = rw (q, le-leb 0 (age_of g.age) (omega arith))

  passes : is_pre_metering g.interval ≡ false → interval_of t 1 wish g ≡ ordinary_interval t Clear g
  unfolding interval_of is_held steered_wish
  passes e = rw e

  preempted : Preempted t g (interval_of t 1 wish g)
  unfolding is_pre_metering
  preempted = record {
    dark = held_at 1 refl;
    green = held_at 2 refl;
    metering = closes;
    other = λ e f w. passes e ∙ no_wish t Clear w g e f;
  }

-- Without the call what is wanted rules.
not_called : (t : Timings) (preemption : ℕ) (wish : Wish) (g : Group) → eqb preemption 1 ≡ false → interval_of t preemption wish g ≡ ordinary_interval t wish g
unfolding interval_of is_held steered_wish
not_called t preemption wish g e = rw e

pub steered : (t : Timings) (preemption : ℕ) (wish : Wish) (g : Group) → Steered t preemption wish g (interval_of t preemption wish g)
steered t preemption wish g = record {
  called = λ e. rw e (preempted t wish g);
  free = λ f. not_called t preemption wish g (ne_eqb preemption 1 f);
}
