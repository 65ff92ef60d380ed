-- The dates in their order: from each to the next the day number rises by one.
use Prim.Native.Nat.{ℕ, ◌+◌, ◌-◌, ◌/◌, ◌%◌, ◌≤◌}
use mathlib.Core.Path.{◌≡◌, refl, ap, ◌∙◌}
use mathlib.Core.Bool.{Bool, true, false, cond}
use native.Mathlib.Omega.{arith}
use borrow.Author.Tests.{ltb-false, eqb-true, eqb-false}
use lib.Dec.{ltb}
use Rattle.calendar.specs.declared.day.Date.{Date}
use Rattle.calendar.specs.Dates.{is_leap, days_before, month_length, is_date, date_of, day_number}
use Rattle.calendar.proofs.DateLaws.{of_bounds, before_rises}

abbrev pub next_date : Date → Date
next_date d =
    cond (ltb d.day (month_length d.year d.month)) (date_of d.year d.month (d.day + 1))
    (cond (ltb d.month 12) (date_of d.year (d.month + 1) 1) (date_of (d.year + 1) 1 1))

-- No day of the year is before January; December has 31 days, and 334 before it, in a leap year 335.
pub january : (y : ℕ) (leap : Bool) → is_leap y ≡ leap → days_before y 1 ≡ 0
unfolding days_before
january y true e = rw e
january y false e = rw e

december : (y : ℕ) (leap : Bool) → is_leap y ≡ leap → (month_length y 12 ≡ 31) × (days_before y 12 ≡ 334 + cond leap 1 0)
unfolding month_length days_before
december y true e = (rw e, rw e)
december y false e = (rw e, rw e)

-- One leap year more is counted after a leap year.
fourth : (y : ℕ) (leap : Bool) → is_leap y ≡ leap → 2000 ≤ y → (y + 1 - 2000 + 3) / 4 ≡ (y - 2000 + 3) / 4 + cond leap 1 0
fourth y true e h = omega (arith, eqb-true (y % 4) 0 e)
fourth y false e h = let n = eqb-false (y % 4) 0 e in omega arith

module _ (y m day : ℕ) (from : 2000 ≤ y) (to : y ≤ 2099) (m-low : 1 ≤ m) (m-high : m ≤ 12) (day_low : 1 ≤ day) (day_high : day ≤ month_length y m) where
  abbrev d : Date
  d = date_of y m day

  length_is : days_before y (m + 1) ≡ days_before y m + month_length y m
  unfolding month_length
  length_is = omega (arith, before_rises y m m-high)

  next_day : day_number (date_of y m (day + 1)) ≡ day_number d + 1
  unfolding day_number
  next_day = omega arith

  next_month : month_length y m ≤ day → day_number (date_of y (m + 1) 1) ≡ day_number d + 1
  unfolding day_number
  next_month h = omega (arith, length_is)

  next_year : month_length y m ≤ day → m ≡ 12 → day_number (date_of (y + 1) 1 1) ≡ day_number d + 1
  unfolding day_number
  next_year h e =
      let last = december y _ refl in
      let long : month_length y m ≡ 31 = ap (month_length y) e ∙ last.0 in
      let days : days_before y m ≡ 334 + cond (is_leap y) 1 0 = ap (days_before y) e ∙ last.1 in
      omega (arith, january (y + 1) _ refl, fourth y _ refl from)

  rises_case : (a b : Bool) → ltb day (month_length y m) ≡ a → ltb m 12 ≡ b → day_number (next_date d) ≡ day_number d + 1
  rises_case true b ea eb = rw ea next_day
  rises_case false true ea eb = rw (ea, eb) (next_month (ltb-false _ _ ea))
  rises_case false false ea eb = rw (ea, eb) (next_year (ltb-false _ _ ea) (omega (arith, ltb-false m 12 eb)))

  rises : day_number (next_date d) ≡ day_number d + 1
  rises = rises_case _ _ refl refl

-- From a date to the next the day number rises by one.
pub number_rises : (d : Date) → is_date d ≡ true → day_number (next_date d) ≡ day_number d + 1
number_rises = of_bounds (λ (d : Date). day_number (next_date d) ≡ day_number d + 1) rises
