-- The way back gives what the words say: kept from each day looked at to the day before.
use Prim.Native.Nat.{ℕ, zero, suc, ◌≤◌, ◌<◌}
use mathlib.Core.Path.{◌≡◌, refl, sym, subst, ap, ◌∙◌}
use mathlib.Core.Bool.{Bool, true, false, cond}
use mathlib.Core.List.{List}
use native.Mathlib.Omega.{arith}
use borrow.Author.Tests.{eqb-true, eqb-false}
use lib.Dec.{eqb}
use Rattle.loops.proofs.Cases.{by_test}
use Rattle.calendar.specs.declared.day.Date.{Date}
use Rattle.calendar.specs.Dates.{is_date, day_before}
use Rattle.calendar.specs.Holidays.{day_type_of}
use Rattle.calendar.proofs.DayBefore.{before_is_date, number_falls, same_number}
use Rattle.plan.specs.PastMidnight.{days_back, last_minute, or_else, earlier, in_force_now, DaysBefore, place_on, InForceNow}
use Rattle.plan.proofs.WayBack.{or_first, or_second, ends, goes}

or_none : (a b : ℕ) (t : Bool) → eqb a 0 ≡ t → cond t b a ≡ 0 → (a ≡ 0) × (b ≡ 0)
or_none a b true e h = (eqb-true a 0 e, h)
or_none a b false e h = absurd (eqb-false a 0 e h)

-- The date itself is the one 0 days before.
same_day : {today date : Date} → is_date today ≡ true → DaysBefore today 0 date → date ≡ today
same_day {today} {date} ok b = same_number date today b.is_date_lem ok (omega (arith, b.number))

module _ (at : ℕ → ℕ → ℕ) (rows : List ℕ) (count : ℕ) where
  abbrev on : Date → ℕ
  on d = at (day_type_of d rows count) last_minute

  abbrev back : Date → ℕ → ℕ
  back = earlier at rows count

  module _ (date : Date) (ok : is_date date ≡ true) where
    abbrev b : Date
    b = day_before date

    -- Where some date is a day or more before, the day before is a date.
    there : (k : ℕ) (d : Date) → DaysBefore date (suc k) d → is_date b ≡ true
    there k d h = before_is_date date ok (omega (arith, h.number))

    nearer : is_date b ≡ true → (k : ℕ) (d : Date) → DaysBefore date (suc k) d → DaysBefore b k d
    nearer e k d h = record { is_date_lem = h.is_date_lem; number = omega (arith, h.number, number_falls date ok e) }

    farther : is_date b ≡ true → (k : ℕ) (d : Date) → DaysBefore b k d → DaysBefore date (suc k) d
    farther e k d h = record { is_date_lem = h.is_date_lem; number = omega (arith, h.number, number_falls date ok e) }

    before_it : is_date b ≡ true → DaysBefore date 1 b
    before_it e = record { is_date_lem = e; number = omega (arith, number_falls date ok e) }

    none_of : (n : ℕ) → is_date b ≡ true → back date (suc n) ≡ 0 → (on b ≡ 0) × (back b n ≡ 0)
    none_of n e z = or_none _ _ _ refl (sym (goes at rows count date n e) ∙ z)

  recent : (n : ℕ) (date : Date) → is_date date ≡ true → (k : ℕ) (d : Date) → k < n → DaysBefore date (suc k) d → (on d ≡ 0 → ⊥)
      → ((j : ℕ) (e : Date) → j < k → DaysBefore date (suc j) e → on e ≡ 0)
      → back date n ≡ on d
  recent zero date ok k d l h some none = absurd (omega arith)
  recent (suc n) date ok zero d l h some none =
      let e = there date ok 0 d h in
      let same : d ≡ day_before date = same_day e (nearer date ok e 0 d h) in
      goes at rows count date n e ∙ or_first _ _ (subst (λ (x : Date). on x ≡ 0 → ⊥) same some) ∙ sym (ap on same)
  recent (suc n) date ok (suc k) d l h some none =
      let e = there date ok (suc k) d h in
      goes at rows count date n e
      ∙ or_second _ _ (none 0 (day_before date) (omega arith) (before_it date ok e))
      ∙ recent n (day_before date) e k d (omega arith) (nearer date ok e (suc k) d h) some (λ j f i g. none (suc j) f (omega arith) (farther date ok e (suc j) f g))

  none_at_all : (n : ℕ) (date : Date) → is_date date ≡ true → ((k : ℕ) (d : Date) → k < n → DaysBefore date (suc k) d → on d ≡ 0) → back date n ≡ 0
  none_at_all zero date ok none = refl
  none_at_all (suc n) date ok none =
      by_test (is_date (day_before date))
      (λ e. goes at rows count date n e
      ∙ or_second _ _ (none 0 (day_before date) (omega arith) (before_it date ok e))
      ∙ none_at_all n (day_before date) e (λ k d i h. none (suc k) d (omega arith) (farther date ok e (suc k) d h)))
      (λ e. ends at rows count date n e)

  only_none : (n : ℕ) (date : Date) → is_date date ≡ true → back date n ≡ 0 → (k : ℕ) (d : Date) → k < n → DaysBefore date (suc k) d → on d ≡ 0
  only_none zero date ok z k d l h = absurd (omega arith)
  only_none (suc n) date ok z zero d l h =
      let e = there date ok 0 d h in ap on (same_day e (nearer date ok e 0 d h)) ∙ (none_of date ok n e z).0
  only_none (suc n) date ok z (suc k) d l h =
      let e = there date ok (suc k) d h in only_none n (day_before date) e (none_of date ok n e z).1 k d (omega arith) (nearer date ok e (suc k) d h)

  module _ (today : Date) (minute : ℕ) (ok : is_date today ≡ true) where
    abbrev now : ℕ
    now = at (day_type_of today rows count) minute

    itself : DaysBefore today 0 today
    itself = record { is_date_lem = ok; number = omega arith }

    pub is_now : InForceNow at rows count today minute (in_force_now at rows count today minute)
    unfolding in_force_now
    is_now = rw ok (record { most_recent = latest; none = nowhere; only_then = only })
      where
        latest : (k : ℕ) (d : Date) → k ≤ days_back → DaysBefore today k d → (place_on at rows count minute k d ≡ 0 → ⊥)
            → ((j : ℕ) (e : Date) → j < k → DaysBefore today j e → place_on at rows count minute j e ≡ 0)
            → or_else now (back today days_back) ≡ place_on at rows count minute k d
        latest zero d l h some none =
            let same : d ≡ today = same_day ok h in
            or_first _ _ (subst (λ (x : Date). at (day_type_of x rows count) minute ≡ 0 → ⊥) same some) ∙ sym (ap (λ (x : Date). at (day_type_of x rows count) minute) same)
        latest (suc k) d l h some none =
            or_second _ _ (none 0 today (omega arith) itself)
            ∙ recent days_back today ok k d (omega arith) h some (λ j e i g. none (suc j) e (omega arith) g)

        nowhere : ((k : ℕ) (d : Date) → k ≤ days_back → DaysBefore today k d → place_on at rows count minute k d ≡ 0) → or_else now (back today days_back) ≡ 0
        nowhere none =
            or_second _ _ (none 0 today (omega arith) itself) ∙ none_at_all days_back today ok (λ k d i h. none (suc k) d (omega arith) h)

        only : or_else now (back today days_back) ≡ 0 → (k : ℕ) (d : Date) → k ≤ days_back → DaysBefore today k d → place_on at rows count minute k d ≡ 0
        only z zero d l h = ap (λ (x : Date). at (day_type_of x rows count) minute) (same_day ok h) ∙ (or_none now _ _ refl z).0
        only z (suc k) d l h = only_none days_back today ok (or_none now _ _ refl z).1 k d (omega arith) h

  -- What holds of every place that `at` gives, and of none, holds of the place in force.
  pub of_place : (P : ℕ → Type 0) → P 0 → ((day minute : ℕ) → P (at day minute)) → (today : Date) (minute : ℕ) → P (in_force_now at rows count today minute)
  unfolding in_force_now
  of_place P z f today minute = by_test (is_date today) (λ e. rw e (either (f _ _) (from days_back today))) (λ e. rw e z)
    where
      either : {a b : ℕ} → P a → P b → P (or_else a b)
      either {a} {b} p q = by_test (eqb a 0) (λ e. rw e q) (λ e. rw e p)

      from : (n : ℕ) (date : Date) → P (back date n)
      from zero date = z
      from (suc n) date =
          by_test (is_date (day_before date)) (λ e. rw e (either (f _ _) (from n (day_before date)))) (λ e. rw e z)
