-- The loop's invariant: the way that is left, from the day come to, ends as the whole does.
use Rattle.plan.proofs.WayBack.{or_first, or_second, no_day_before, found_before, none_before}
use Rattle.plan.specs.InForce.{in_force_of}
use Rattle.plan.specs.PastMidnight.{days_back, last_minute, earlier, in_force_now}
use Rattle.calendar.specs.Dates.{is_date, day_before}
use Rattle.calendar.specs.Holidays.{day_type_of}
use Rattle.calendar.proofs.DayTypeLaws.{no_date, some_date}
use mathlib.Core.Path.{◌≡◌, sym, ◌∙◌}
use Prim.Native.Nat.{◌+◌, ◌-◌}
use mathlib.Core.Bool.{true}
use borrow.Author.Rules.{rules}
use Rattle.plan.proofs.today.in_force_now.Goals as goal
use Rattle.plan.proofs.today.in_force_now.Goals.{After-day_type-day, After-in_force-begun, After-in_force-place, Else-begun-ne0, Else-day-eq-NO_DAY}

-- Of a date, today's place is the definition's,
dated : (c : Else-day-eq-NO_DAY) → is_date c.args.today ≡ true
dated c =
    some_date c.args.today c.args.holidays.numbers.now c.args.holidays.count (λ z. c.if-day-eq-NO_DAY.false (c.requires ∙ z))

begun-today : (c : After-in_force-begun)
    → let a = c.args in
    c.in_force-begun.result ≡ in_force_of a.plan.numbers.now a.plan.count (day_type_of a.today a.holidays.numbers.now a.holidays.count) a.minute
begun-today c = rw (← c.requires) c.in_force-begun.ensures.is

-- Of a date, today's place is the definition's,
dated_at_else_begun_ne0 : (c : Else-begun-ne0) → is_date c.args.today ≡ true
dated_at_else_begun_ne0 c =
    some_date c.args.today c.args.holidays.numbers.now c.args.holidays.count (λ z. c.if-day-eq-NO_DAY.false (c.requires ∙ z))

begun-today_at_else_begun_ne0 : (c : Else-begun-ne0)
    → let a = c.args in
    c.in_force-begun.result ≡ in_force_of a.plan.numbers.now a.plan.count (day_type_of a.today a.holidays.numbers.now a.holidays.count) a.minute
begun-today_at_else_begun_ne0 c = rw (← c.requires) c.in_force-begun.ensures.is

-- and where it is none, the way back decides.
none-begun : (c : Else-begun-ne0)
    → let a = c.args in
    in_force_now (in_force_of a.plan.numbers.now a.plan.count) a.holidays.numbers.now a.holidays.count a.today a.minute
    ≡ earlier (in_force_of a.plan.numbers.now a.plan.count) a.holidays.numbers.now a.holidays.count a.today days_back
unfolding in_force_now
none-begun c = rw (dated_at_else_begun_ne0 c) (or_second _ _ (sym (begun-today_at_else_begun_ne0 c) ∙ c.if-begun-ne0.false))

-- The day type looked at is that of the day before,
type-before : (c : After-day_type-day)
    → let a = c.args in
    c.day_type-day.result ≡ day_type_of (day_before c.loop-back.date) a.holidays.numbers.now a.holidays.count
type-before c = rw (← c.day_before-date.ensures) c.day_type-day.ensures.is

-- The day type looked at is that of the day before,
type-before_at_after_in_force_place : (c : After-in_force-place)
    → let a = c.args in
    c.day_type-day.result ≡ day_type_of (day_before c.loop-back.date) a.holidays.numbers.now a.holidays.count
type-before_at_after_in_force_place c = rw (← c.day_before-date.ensures) c.day_type-day.ensures.is

-- and the place is the one in force at its end.
place-before : (c : After-in_force-place)
    → let a = c.args in
    c.in_force-place.result ≡ in_force_of a.plan.numbers.now a.plan.count (day_type_of (day_before c.loop-back.date) a.holidays.numbers.now a.holidays.count) last_minute
place-before c = rw (← type-before_at_after_in_force_place c) c.in_force-place.ensures.is

pub returns-then-day-eq-NO_DAY : goal.returns-then-day-eq-NO_DAY
unfolding in_force_now
returns-then-day-eq-NO_DAY c =
    rw (no_date c.args.today c.args.holidays.numbers.now c.args.holidays.count (sym c.requires ∙ c.if-day-eq-NO_DAY.true))

pub returns-then-begun-ne0 : goal.returns-then-begun-ne0
unfolding in_force_now
returns-then-begun-ne0 c =
    let e = begun-today (goal.at.returns-then-begun-ne0 c).After-in_force-begun in
    rw (dated (goal.at.returns-then-begun-ne0 c).Else-day-eq-NO_DAY) (e ∙ sym (or_first _ _ (λ z. c.if-begun-ne0.true (e ∙ z))))

pub returns-then-day-eq-NO_DAY-2 : goal.returns-then-day-eq-NO_DAY-2
returns-then-day-eq-NO_DAY-2 c =
    let a = c.args in
    let e = no_day_before (in_force_of a.plan.numbers.now a.plan.count) a.holidays.numbers.now a.holidays.count c.loop-back.date (days_back - c.loop-back._back) (search rules) (sym (type-before (goal.at.returns-then-day-eq-NO_DAY-2 c).After-day_type-day) ∙ c.if-day-eq-NO_DAY-2.true) in
    sym (none-begun (goal.at.returns-then-day-eq-NO_DAY-2 c).Else-begun-ne0 ∙ sym c.loop-back.invariant ∙ e)

pub returns-then-place-ne0 : goal.returns-then-place-ne0
returns-then-place-ne0 c =
    let a = c.args in
    let p = place-before (goal.at.returns-then-place-ne0 c).After-in_force-place in
    let e = found_before (in_force_of a.plan.numbers.now a.plan.count) a.holidays.numbers.now a.holidays.count c.loop-back.date (days_back - c.loop-back._back) (search rules) (λ z. c.if-day-eq-NO_DAY-2.false (type-before (goal.at.returns-then-place-ne0 c).After-day_type-day ∙ z)) (λ z. c.if-place-ne0.true (p ∙ z)) in
    p ∙ sym e ∙ c.loop-back.invariant ∙ sym (none-begun (goal.at.returns-then-place-ne0 c).Else-begun-ne0)

pub loop-back-preserved : goal.loop-back-preserved
loop-back-preserved c =
    let a = c.args in
    let e = none_before (in_force_of a.plan.numbers.now a.plan.count) a.holidays.numbers.now a.holidays.count c.loop-back.date (days_back - c.loop-back._back) (search rules) (λ z. c.if-day-eq-NO_DAY-2.false (type-before (goal.at.loop-back-preserved c).After-day_type-day ∙ z)) (sym (place-before (goal.at.loop-back-preserved c).After-in_force-place) ∙ c.if-place-ne0.false) in
    let left : days_back - (c.loop-back._back + 1) ≡ days_back - c.loop-back._back - 1 = search rules in
    rw (c.day_before-date.ensures, left) (sym e ∙ c.loop-back.invariant)

pub returns : goal.returns
returns c =
    let e : days_back - c.loop-back._back ≡ 0 = search rules in
    (rw e at c.loop-back.invariant) ∙ sym (none-begun (goal.at.returns c).Else-begun-ne0)
