-- The way back, a day at a time.
use Prim.Native.Nat.{ℕ, suc, ◌-◌, ◌<◌}
use mathlib.Core.Path.{◌≡◌, ap, ◌∙◌}
use mathlib.Core.Bool.{true, false}
use mathlib.Core.List.{List}
use native.Mathlib.Omega.{arith}
use borrow.Author.Tests.{ne_eqb, eq-eqb}
use Rattle.calendar.specs.declared.day.Date.{Date}
use Rattle.calendar.specs.Dates.{is_date, day_before}
use Rattle.calendar.specs.Holidays.{no_day, day_type_of}
use Rattle.calendar.proofs.DayTypeLaws.{no_date, some_date}
use Rattle.plan.specs.PastMidnight.{last_minute, or_else, earlier}

pub or_first : (a b : ℕ) → (a ≡ 0 → ⊥) → or_else a b ≡ a
or_first a b h = rw (ne_eqb a 0 h)

pub or_second : (a b : ℕ) → a ≡ 0 → or_else a b ≡ b
or_second a b h = rw (eq-eqb a 0 h)

module _ (at : ℕ → ℕ → ℕ) (rows : List ℕ) (count : ℕ) (date : Date) where
  abbrev day_type : ℕ
  day_type = day_type_of (day_before date) rows count

  pub ends : (n : ℕ) → is_date (day_before date) ≡ false → earlier at rows count date (suc n) ≡ 0
  ends n e = rw e

  pub goes : (n : ℕ) → is_date (day_before date) ≡ true
      → earlier at rows count date (suc n) ≡ or_else (at day_type last_minute) (earlier at rows count (day_before date) n)
  goes n e = rw e

  -- The same by the tests of the code.
  module _ (n : ℕ) (h : 0 < n) where
    one_more : n ≡ suc (n - 1)
    one_more = omega arith

    pub no_day_before : day_type ≡ no_day → earlier at rows count date n ≡ 0
    no_day_before e = ap (earlier at rows count date) one_more ∙ ends (n - 1) (no_date (day_before date) rows count e)

    module _ (there : day_type ≡ no_day → ⊥) where
      on : earlier at rows count date n ≡ or_else (at day_type last_minute) (earlier at rows count (day_before date) (n - 1))
      on = ap (earlier at rows count date) one_more ∙ goes (n - 1) (some_date (day_before date) rows count there)

      pub found_before : (at day_type last_minute ≡ 0 → ⊥) → earlier at rows count date n ≡ at day_type last_minute
      found_before some = on ∙ or_first _ _ some

      pub none_before : at day_type last_minute ≡ 0 → earlier at rows count date n ≡ earlier at rows count (day_before date) (n - 1)
      none_before none = on ∙ or_second _ _ none
