-- The day before a date is a date, unless the date is 1 January 2000, and its number is less by one. No two dates have the same number.
use Prim.Native.Nat.{ℕ, zero, suc, ◌+◌, ◌-◌, ◌%◌, ◌≤◌, ◌<◌}
use mathlib.Core.Path.{◌≡◌, refl, ap, sym, ◌∙◌}
use mathlib.Core.Bool.{Bool, true, false}
use native.Mathlib.Omega.{arith}
use borrow.Author.Tests.{ltb-true, ltb-false, lt-ltb, le-ltb}
use lib.Dec.{ltb}
use Rattle.numbers.specs.Within.{between}
use Rattle.numbers.proofs.WithinLaws.{inside}
use Rattle.calendar.specs.declared.day.Date.{Date}
use Rattle.calendar.specs.Dates.{days_before, month_length, is_date, date_of, last_of, day_before, day_number, weekday_of}
use Rattle.calendar.specs.Days.{today_of, yesterday_of}
use Rattle.calendar.proofs.DateLaws.{of_bounds, length_least, length_most}
use Rattle.calendar.proofs.NextDate.{next_date, number_rises, january}

-- A date by its bounds.
there : (y m day : ℕ) → 2000 ≤ y → y ≤ 2099 → 1 ≤ m → m ≤ 12 → 1 ≤ day → day ≤ month_length y m → is_date (date_of y m day) ≡ true
unfolding is_date
there y m day yl yh ml mh dl dh = rw (inside (between 2000 2099) y yl yh, inside (between 1 12) m ml mh, inside (between 1 (month_length y m)) day dl dh)

-- A month of the year and a day of at most 31, in whatever year.
pub record Fits (date : Date) : Type 0 where
  pub month_low : 1 ≤ date.month
  pub month_high : date.month ≤ 12
  pub day_high : date.day ≤ 31

module _ (y m day : ℕ) (from : 2000 ≤ y) (to : y ≤ 2099) (m-low : 1 ≤ m) (m-high : m ≤ 12) (day_low : 1 ≤ day) (day_high : day ≤ month_length y m) where
  abbrev d : Date
  d = date_of y m day

  fits_case : (a b : Bool) → ltb 1 day ≡ a → ltb 1 m ≡ b → Fits (day_before d)
  unfolding day_before last_of
  fits_case true b ea eb = rw ea (record { month_low = m-low; month_high = m-high; day_high = omega (arith, length_most y m m-high) })
  fits_case false true ea eb =
      rw (ea, eb) (record { month_low = omega (arith, ltb-true 1 m eb); month_high = omega arith; day_high = length_most y (m - 1) (omega arith) })
  fits_case false false ea eb = rw (ea, eb) (record { month_low = omega arith; month_high = omega arith; day_high = length_most (y - 1) 12 (omega arith) })

  fits : Fits (day_before d)
  fits = fits_case _ _ refl refl

  next_case : (a b : Bool) → ltb 1 day ≡ a → ltb 1 m ≡ b → next_date (day_before d) ≡ d
  unfolding day_before last_of
  next_case true b ea eb =
      let more = ltb-true 1 day ea in
      let on : day - 1 + 1 ≡ day = omega arith in
      rw (ea, lt-ltb (day - 1) (month_length y m) (omega arith), on)
  next_case false true ea eb =
      let more = ltb-true 1 m eb in
      let on : m - 1 + 1 ≡ m = omega arith in
      let first : day ≡ 1 = omega (arith, ltb-false 1 day ea) in
      let last = le-ltb (month_length y (m - 1)) (month_length y (m - 1)) (omega arith) in
      rw (ea, eb, last, lt-ltb (m - 1) 12 (omega arith), on, first)
  next_case false false ea eb =
      let on : y - 1 + 1 ≡ y = omega arith in
      let first : day ≡ 1 = omega (arith, ltb-false 1 day ea) in
      let month : m ≡ 1 = omega (arith, ltb-false 1 m eb) in
      let last = le-ltb (month_length (y - 1) 12) (month_length (y - 1) 12) (omega arith) in
      rw (ea, eb, last, on, month, first)

  next_is : next_date (day_before d) ≡ d
  next_is = next_case _ _ refl refl

  -- Among the first days of years only that of 2000 has the number 0.
  later : day ≡ 1 → m ≡ 1 → 0 < day_number d → 2000 < y
  unfolding day_number
  later first e h = let none : days_before y m ≡ 0 = ap (days_before y) e ∙ january y _ refl in omega arith

  date_case : (a b : Bool) → ltb 1 day ≡ a → ltb 1 m ≡ b → 0 < day_number d → is_date (day_before d) ≡ true
  unfolding day_before last_of
  date_case true b ea eb h = rw ea (there y m (day - 1) from to m-low m-high (omega (arith, ltb-true 1 day ea)) (omega arith))
  date_case false true ea eb h =
      let more = ltb-true 1 m eb in
      rw (ea, eb) (there y (m - 1) _ from to (omega arith) (omega arith) (length_least y (m - 1) (omega arith) (omega arith)) (omega arith))
  date_case false false ea eb h =
      let l = later (omega (arith, ltb-false 1 day ea)) (omega (arith, ltb-false 1 m eb)) h in
      rw (ea, eb) (there (y - 1) 12 _ (omega arith) (omega arith) (omega arith) (omega arith) (length_least (y - 1) 12 (omega arith) (omega arith)) (omega arith))

  dated : 0 < day_number d → is_date (day_before d) ≡ true
  dated = date_case _ _ refl refl

  -- A month after January has days of its year before it.
  some_before : 1 < m → 0 < days_before y m
  unfolding month_length
  some_before h =
      let e : m - 1 + 1 ≡ m = omega arith in
      let some : 1 ≤ days_before y m - days_before y (m - 1) = rw e at (length_least y (m - 1) (omega arith) (omega arith)) in
      omega arith

  first_case : (b : Bool) → ltb 1 m ≡ b → day_number d ≡ 0 → d ≡ date_of 2000 1 1
  unfolding day_number
  first_case true eb e = absurd (omega (arith, some_before (ltb-true 1 m eb)))
  first_case false eb e =
      let year : y ≡ 2000 = omega arith in
      let month : m ≡ 1 = omega (arith, ltb-false 1 m eb) in
      let first : day ≡ 1 = omega arith in
      rw (year, month, first)

  first_is : day_number d ≡ 0 → d ≡ date_of 2000 1 1
  first_is = first_case _ refl

module _ (d : Date) (ok : is_date d ≡ true) where
  pub before_fits : Fits (day_before d)
  before_fits = of_bounds (λ (x : Date). Fits (day_before x)) fits d ok

  -- The date is the next of the day before it.
  next_before : next_date (day_before d) ≡ d
  next_before = of_bounds (λ (x : Date). next_date (day_before x) ≡ x) next_is d ok

  -- The day before is a date, unless the date is 1 January 2000, whose number is 0,
  pub before_is_date : 0 < day_number d → is_date (day_before d) ≡ true
  before_is_date = of_bounds (λ (x : Date). 0 < day_number x → is_date (day_before x) ≡ true) dated d ok

  -- and then its number is less by one.
  pub number_falls : is_date (day_before d) ≡ true → day_number d ≡ day_number (day_before d) + 1
  number_falls e = ap day_number (sym next_before) ∙ number_rises (day_before d) e

  weekday_before : day_number d ≡ day_number (day_before d) + 1 → (weekday_of d + 6) % 7 ≡ weekday_of (day_before d)
  unfolding weekday_of
  weekday_before e = omega arith

  -- What the holidays take for yesterday is the day before, in its month.
  pub yesterday_is : is_date (day_before d) ≡ true → yesterday_of d ≡ today_of (day_before d)
  unfolding yesterday_of today_of
  yesterday_is e = rw (weekday_before (number_falls e))

  first_date : day_number d ≡ 0 → d ≡ date_of 2000 1 1
  first_date = of_bounds (λ (x : Date). day_number x ≡ 0 → x ≡ date_of 2000 1 1) first_is d ok

of_number : (n : ℕ) (d e : Date) → is_date d ≡ true → is_date e ≡ true → day_number d ≡ n → day_number e ≡ n → d ≡ e
of_number zero d e dok eok dn en = first_date d dok dn ∙ sym (first_date e eok en)
of_number (suc n) d e dok eok dn en =
    let db = before_is_date d dok (omega arith) in
    let eb = before_is_date e eok (omega arith) in
    sym (next_before d dok)
    ∙ ap next_date (of_number n (day_before d) (day_before e) db eb (omega (arith, number_falls d dok db)) (omega (arith, number_falls e eok eb)))
    ∙ next_before e eok

-- Dates of the same number are the same.
pub same_number : (d e : Date) → is_date d ≡ true → is_date e ≡ true → day_number d ≡ day_number e → d ≡ e
same_number d e dok eok n = of_number (day_number e) d e dok eok n refl
