-- Bounds of a date's numbers, of the table of days before each month, and of a month's length.
use Prim.Native.Nat.{ℕ, zero, suc, ◌+◌, ◌-◌, ◌≤◌, ◌<◌}
use mathlib.Core.Path.{◌≡◌, refl, sym, ◌∙◌}
use mathlib.Core.Bool.{Bool, true, false, cond, ◌&&◌, true≢false}
use native.Mathlib.Omega.{arith}
use borrow.Author.Tests.{leb-true, leb-false, ltb-true, lt-ltb}
use lib.Dec.{leb, ltb}
use lib.ListN.{get_or, get_or-eq_default}
use Rattle.loops.proofs.Cases.{by_test}
use Rattle.numbers.specs.Within.{between, is_within}
use Rattle.numbers.proofs.WithinLaws.{ends, inside}
use Rattle.calendar.specs.declared.day.Date.{Date}
use Rattle.calendar.specs.Dates.{table, is_leap, days_before, month_length, months, is_date, date_of, day_number, weekday_of}
use Rattle.calendar.proofs.Below.{and_left, and_right, below}

-- Days before a month of a year that is leap or not.
abbrev before : Bool → ℕ → ℕ
before leap month = get_or table (month - 1) 0 + cond (leap && ltb 2 month) 1 0

pub table_most : (i : ℕ) → i < 13 → get_or table i 0 ≤ 365
table_most i h = leb-true _ _ (below (λ k. leb (get_or table k 0) 365) 13 refl i h)

abbrev small : Bool → ℕ → Bool
small leap month = leb (before leap month) 366

abbrev step : Bool → ℕ → Bool
step leap month = leb (before leap month) (before leap (month + 1)) && leb (before leap (month + 1)) (before leap month + 31)

all_small : (leap : Bool) (m : ℕ) → m < 14 → small leap m ≡ true
all_small true = below (small true) 14 refl
all_small false = below (small false) 14 refl

all_step : (leap : Bool) (m : ℕ) → m < 13 → step leap m ≡ true
all_step true = below (step true) 13 refl
all_step false = below (step false) 13 refl

pub before_most : (y m : ℕ) → m ≤ 13 → days_before y m ≤ 366
unfolding days_before
before_most y m h = leb-true _ _ (all_small (is_leap y) m (omega arith))

module _ (y m : ℕ) (h : m ≤ 12) where
  pub before_rises : days_before y m ≤ days_before y (m + 1)
  unfolding days_before
  before_rises = leb-true _ _ (and_left _ _ (all_step (is_leap y) m (omega arith)))

  before_near : days_before y (m + 1) ≤ days_before y m + 31
  unfolding days_before
  before_near = leb-true _ _ (and_right (leb (days_before y m) (days_before y (m + 1))) _ (all_step (is_leap y) m (omega arith)))

  pub length_most : month_length y m ≤ 31
  unfolding month_length
  length_most = omega (arith, before_near)

-- Each month has a day.
all_days : (leap : Bool) (i : ℕ) → i < 12 → ltb (before leap (i + 1)) (before leap (i + 1 + 1)) ≡ true
all_days true = below (λ i. ltb (before true (i + 1)) (before true (i + 1 + 1))) 12 refl
all_days false = below (λ i. ltb (before false (i + 1)) (before false (i + 1 + 1))) 12 refl

pub length_least : (y m : ℕ) → 1 ≤ m → m ≤ 12 → 1 ≤ month_length y m
unfolding month_length days_before
length_least y m l h =
    let e : m - 1 + 1 ≡ m = omega arith in
    let rises : days_before y m < days_before y (m + 1) = ltb-true _ _ (rw e at (all_days (is_leap y) (m - 1) (omega arith))) in
    omega (arith, rises)

-- A month that there is not has no day.
none_first : (leap : Bool) → before leap 1 - before leap 0 ≡ 0
none_first true = refl
none_first false = refl

none_beyond : (leap : Bool) (m : ℕ) → 12 < m → before leap (m + 1) - before leap m ≡ 0
none_beyond leap m h =
    let e = get_or-eq_default table 0 {n = m + 1 - 1} (omega arith) in
    rw (e, lt-ltb 2 (m + 1) (omega arith), lt-ltb 2 m (omega arith)) (omega arith)

pub no_days : (y m : ℕ) → is_within months m ≡ false → month_length y m ≡ 0
unfolding month_length days_before
no_days y zero e = none_first (is_leap y)
no_days y (suc m) e =
    by_test (leb (suc m) 12)
    (λ h. absurd (true≢false (sym (inside months (suc m) (omega arith) (leb-true (suc m) 12 h)) ∙ e)))
    (λ h. none_beyond (is_leap y) (suc m) (leb-false (suc m) 12 h))

pub record Bounds (date : Date) : Type 0 where
  pub year_low : 2000 ≤ date.year
  pub year_high : date.year ≤ 2099
  pub month_low : 1 ≤ date.month
  pub month_high : date.month ≤ 12
  pub day_low : 1 ≤ date.day
  pub day_in_month : date.day ≤ month_length date.year date.month
  pub day_high : date.day ≤ 31

pub bounds : (date : Date) → is_date date ≡ true → Bounds date
unfolding is_date
bounds date e =
    let y = date.year in
    let m = date.month in
    let d = date.day in
    let front = and_left (is_within (between 2000 2099) y && is_within (between 1 12) m) _ e in
    let year = and_left (is_within (between 2000 2099) y) _ front in
    let month = and_right (is_within (between 2000 2099) y) _ front in
    let day = and_right (is_within (between 2000 2099) y && is_within (between 1 12) m) _ e in
    let years = ends (between 2000 2099) y year in
    let months = ends (between 1 12) m month in
    let days = ends (between 1 (month_length y m)) d day in
    record {
      year_low = years.0;
      year_high = years.1;
      month_low = months.0;
      month_high = months.1;
      day_low = days.0;
      day_in_month = days.1;
      day_high = omega (arith, length_most y m months.1);
    }

-- What holds of all numbers within these bounds holds of every date.
pub of_bounds : (P : Date → Type 0)
    → ((y m day : ℕ) → 2000 ≤ y → y ≤ 2099 → 1 ≤ m → m ≤ 12 → 1 ≤ day → day ≤ month_length y m → P (date_of y m day))
    → (date : Date) → is_date date ≡ true → P date
of_bounds P f date e =
    let b = bounds date e in
    f date.year date.month date.day b.year_low b.year_high b.month_low b.month_high b.day_low b.day_in_month

pub number_most : (date : Date) → is_date date ≡ true → day_number date < 40000
unfolding day_number
number_most date e = let b = bounds date e in omega (arith, before_most date.year date.month (omega arith))

pub weekday_most : (date : Date) → weekday_of date ≤ 6
unfolding weekday_of
weekday_most date = omega arith
