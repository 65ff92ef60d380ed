-- The calls are those of the definition, each made once; what the definition gives is what the words say.
use Prim.Native.Nat.{ℕ}
use mathlib.Core.Path.{◌≡◌, sym, subst⁻¹, ◌∙◌}
use mathlib.Core.Bool.{true, cond}
use mathlib.Core.List.{List}
use borrow.Author.Tests.{not-true, not-false}
use Rattle.calendar.specs.declared.day.Date.{Date}
use Rattle.calendar.specs.Dates.{is_date}
use Rattle.calendar.specs.Days.{today_of}
use Rattle.calendar.specs.Holidays.{day_type_of}
use Rattle.calendar.specs.Named.{Typed}
use Rattle.calendar.proofs.DateLaws.{bounds}
use Rattle.calendar.proofs.DayTypeLaws.{typed}
use Rattle.calendar.proofs.day_type.Goals as goal
use Rattle.calendar.proofs.day_type.Goals.{After-is_holiday, Else-not-is_date, Then-not-is_date}

answers : (date : Date) (rows : List ℕ) (count r : ℕ) → r ≡ day_type_of date rows count
    → (r ≡ day_type_of date rows count) × (is_date date ≡ true → Typed date rows count r)
answers date rows count r e = (e, λ ok. subst⁻¹ (λ (day : ℕ). Typed date rows count day) e (typed date rows count ok))

no_date : (c : Then-not-is_date) → let a = c.args in 8 ≡ day_type_of a.date a.holidays.numbers.now a.holidays.count
unfolding day_type_of
no_date c = rw (sym c.is_date.ensures ∙ not-true _ c.if-not-is_date.true-raw)

dated : (c : Else-not-is_date) → is_date c.args.date ≡ true
dated c = sym c.is_date.ensures ∙ not-false _ c.if-not-is_date.false-raw

-- Of a date it is Holiday or the weekday, by the call's answer.
by_answer : (c : After-is_holiday)
    → let a = c.args in
    day_type_of a.date a.holidays.numbers.now a.holidays.count ≡ cond c.is_holiday.result 7 c.weekday-weekday.result
unfolding day_type_of today_of
by_answer c =
    rw (
      sym c.is_date.ensures ∙ not-false _ c.if-not-is_date.false-raw,
      ← c.weekday-weekday.ensures,
      ← c.in_month-today.ensures,
      ← c.yesterday-yesterday.ensures,
      ← c.is_holiday.ensures,
    )

pub returns-then-not-is_date : goal.returns-then-not-is_date
returns-then-not-is_date c = let all = answers _ _ _ _ (no_date c) in record { is = all.0; named = all.1 }

pub in_month-today-requires : goal.in_month-today-requires
in_month-today-requires c = let b = bounds _ (dated (goal.at.in_month-today-requires c).Else-not-is_date) in (b.month_low, b.month_high, b.day_high)

pub returns-then-is_holiday : goal.returns-then-is_holiday
returns-then-is_holiday c = let all = answers _ _ _ _ (sym (rw c.if-is_holiday.true at (by_answer (goal.at.returns-then-is_holiday c).After-is_holiday))) in record { is = all.0; named = all.1 }

pub returns : goal.returns
returns c = let all = answers _ _ _ _ (sym (rw c.if-is_holiday.false at (by_answer (goal.at.returns c).After-is_holiday))) in record { is = all.0; named = all.1 }
