-- What the tests of the holidays say of dates: a row names a date in the words' sense exactly if it does by its test.
use Prim.Native.Nat.{◌+◌, ◌%◌, ◌<◌}
use mathlib.Core.Path.{◌≡◌, refl, sym, ap, subst, ◌∙◌}
use mathlib.Core.Bool.{true, false, not, ◌&&◌, true≢false}
use native.Mathlib.Omega.{arith}
use borrow.Author.Tests.{not-true, eqb-true, eqb-false, eq-eqb, ne_eqb}
use lib.Dec.{eqb}
use Rattle.loops.proofs.Cases.{by_test, both_true, either_true, or_else}
use Rattle.calendar.specs.declared.day.Date.{Date}
use Rattle.calendar.specs.declared.day.Day.{Day}
use Rattle.calendar.specs.declared.Row.{Row}
use Rattle.calendar.specs.Dates.{is_date, day_before, day_number, weekday_of}
use Rattle.calendar.specs.Days.{in_month, today_of, yesterday_of}
use Rattle.calendar.specs.Holidays.{is_fixed, is_sunday, is_moving, is_named}
use Rattle.calendar.specs.Named.{OnDay, Sunday, ByMove, stays, moved, Moves, Names, moving, fixed, floating, day_after}
use Rattle.calendar.proofs.DayBefore.{before_is_date, number_falls, yesterday_is, same_number}

module _ (d : Date) where
  is_sunday_lem : is_sunday (today_of d) ≡ eqb (weekday_of d) 0
  unfolding today_of in_month
  is_sunday_lem = refl

  -- 31 December 1999, the one day before a date that is no date, was no Sunday.
  no_first : day_number d ≡ 0 → is_sunday (yesterday_of d) ≡ false
  unfolding yesterday_of in_month weekday_of
  no_first e = ne_eqb ((weekday_of d + 6) % 7) 0 (omega arith)

  some_before : is_sunday (yesterday_of d) ≡ true → 0 < day_number d
  some_before s =
      by_test (eqb (day_number d) 0)
      (λ e. absurd (true≢false (sym s ∙ no_first (eqb-true _ 0 e))))
      (λ e. let n = eqb-false (day_number d) 0 e in omega arith)

module _ (row : Row) where
  on_day_lem : (d : Date) → is_fixed (today_of d) row ≡ true → OnDay d row
  unfolding is_fixed today_of in_month
  on_day_lem d e =
      let b = both_true (eqb d.month row.month) (eqb d.day row.nth) e in
      record { month = eqb-true _ _ b.0; day = eqb-true _ _ b.1 }

  is_fixed_lem : (d : Date) → OnDay d row → is_fixed (today_of d) row ≡ true
  unfolding is_fixed today_of in_month
  is_fixed_lem d o = rw (eq-eqb _ _ o.month, eq-eqb _ _ o.day)

  module _ (d : Date) (ok : is_date d ≡ true) where
    by_move : is_moving (today_of d) (yesterday_of d) row ≡ true → ByMove d row
    unfolding is_moving
    by_move e =
        either_true (is_fixed (today_of d) row && not (is_sunday (today_of d))) _ e
        (λ t. let b = both_true (is_fixed (today_of d) row) _ t in
        stays (on_day_lem d b.0) (λ s. true≢false (sym (is_sunday_lem d ∙ eq-eqb _ 0 s) ∙ not-true _ b.1)))
        (λ t. let b = both_true (is_fixed (yesterday_of d) row) _ t in
        let ds = before_is_date d ok (some_before d b.1) in
        let y = yesterday_is d ok ds in
        moved (day_before d) (record { is_date_lem = ds; number = number_falls d ok ds })
        (on_day_lem (day_before d) (subst (λ (x : Day). is_fixed x row ≡ true) y b.0))
        (eqb-true (weekday_of (day_before d)) 0 (sym (is_sunday_lem (day_before d)) ∙ subst (λ (x : Day). is_sunday x ≡ true) y b.1)))

    is_moving_lem : ByMove d row → is_moving (today_of d) (yesterday_of d) row ≡ true
    unfolding is_moving
    is_moving_lem (stays o n) = rw (is_fixed_lem d o, is_sunday_lem d, ne_eqb (weekday_of d) 0 n)
    is_moving_lem (moved sunday a o s) =
        let ds = before_is_date d ok (omega (arith, a.number)) in
        let same : day_before d ≡ sunday = same_number (day_before d) sunday ds a.is_date_lem (omega (arith, a.number, number_falls d ok ds)) in
        let y : yesterday_of d ≡ today_of sunday = yesterday_is d ok ds ∙ ap today_of same in
        let after : (is_fixed (yesterday_of d) row && is_sunday (yesterday_of d)) ≡ true =
        rw (y, is_fixed_lem sunday o, is_sunday_lem sunday, eq-eqb (weekday_of sunday) 0 s) in
        or_else (is_fixed (today_of d) row && not (is_sunday (today_of d))) after

    -- A row that moves names no Sunday.
    no_move : Sunday d → ByMove d row → ⊥
    unfolding weekday_of
    no_move s (stays o n) = n s
    no_move s (moved sunday a o t) = omega (arith, a.number)

    pub no_sunday_named : Moves row → Sunday d → Names d row → ⊥
    no_sunday_named m s (moving w b) = no_move s b
    no_sunday_named m s (fixed k n o) = n m.set
    no_sunday_named m s (floating k f) = omega (arith, m.kind)
    no_sunday_named m s (day_after k f) = omega (arith, m.kind)

    pub names : is_named (today_of d) (yesterday_of d) row ≡ true → Names d row
    unfolding is_named
    names e =
        by_test (eqb row.kind 1)
        (λ k. by_test (eqb row.moves 1)
        (λ m. moving (record { kind = eqb-true _ 1 k; set = eqb-true _ 1 m }) (by_move (rw (k, m) at e)))
        (λ m. fixed (eqb-true _ 1 k) (eqb-false _ 1 m) (on_day_lem d (rw (k, m) at e))))
        (λ k. by_test (eqb row.kind 2)
        (λ l. floating (eqb-true _ 2 l) (rw (k, l) at e))
        (λ l. by_test (eqb row.kind 3)
        (λ m. day_after (eqb-true _ 3 m) (rw (k, l, m) at e))
        (λ m. absurd (true≢false (sym (rw (k, l, m) at e))))))

    pub is_named_lem : Names d row → is_named (today_of d) (yesterday_of d) row ≡ true
    unfolding is_named
    is_named_lem (moving m b) = rw (eq-eqb _ 1 m.kind, eq-eqb _ 1 m.set) (is_moving_lem b)
    is_named_lem (fixed k n o) = rw (eq-eqb _ 1 k, ne_eqb _ 1 n) (is_fixed_lem d o)
    is_named_lem (floating k f) = rw (ne_eqb row.kind 1 (omega arith), eq-eqb _ 2 k) f
    is_named_lem (day_after k f) = rw (ne_eqb row.kind 1 (omega arith), ne_eqb row.kind 2 (omega arith), eq-eqb _ 3 k) f
