-- Only what is no date has no day type; the day type in words.
use Prim.Native.Nat.{ℕ, zero, suc, ◌≤◌, ◌<◌}
use mathlib.Core.Path.{◌≡◌, refl, sym, subst, ◌∙◌}
use mathlib.Core.Bool.{Bool, true, false, cond, true≢false}
use mathlib.Core.List.{List}
use mathlib.Core.Logic.{⊎_elim}
use native.Mathlib.Nat.{eq-or-lt_of_le}
use native.Mathlib.Omega.{arith}
use borrow.Author.Tests.{eqb-true, eqb-false}
use lib.Dec.{eqb}
use Rattle.loops.proofs.Cases.{by_test}
use Rattle.calendar.specs.declared.day.Date.{Date}
use Rattle.calendar.specs.Dates.{is_date, weekday_of}
use Rattle.calendar.specs.Days.{today_of, yesterday_of}
use Rattle.calendar.specs.Holidays.{row_of, is_named, is_holiday, no_day, day_type_of}
use Rattle.calendar.specs.Named.{Names, Named, Typed}
use Rattle.calendar.proofs.DateLaws.{weekday_most}
use Rattle.calendar.proofs.NamedLaws.{names, is_named_lem, no_sunday_named}

none_typed : (date holiday : Bool) (weekday : ℕ) → weekday ≤ 6 → cond date (cond holiday 7 weekday) no_day ≡ no_day → date ≡ false
none_typed true true weekday h e = absurd (omega arith)
none_typed true false weekday h e = absurd (omega arith)
none_typed false holiday weekday h e = refl

module _ (date : Date) (rows : List ℕ) (count : ℕ) where
  pub no_date : day_type_of date rows count ≡ no_day → is_date date ≡ false
  unfolding day_type_of
  no_date e = none_typed (is_date date) (is_holiday (today_of date) (yesterday_of date) rows count) (weekday_of date) (weekday_most date) e

  pub some_date : (day_type_of date rows count ≡ no_day → ⊥) → is_date date ≡ true
  unfolding day_type_of
  some_date h = by_test (is_date date) (λ e. e) (λ e. absurd (h (rw e)))

  module _ (ok : is_date date ≡ true) where
    abbrev is_one : ℕ → Bool
    is_one i = is_named (today_of date) (yesterday_of date) (row_of rows i)

    abbrev some : ℕ → Bool
    some = is_holiday (today_of date) (yesterday_of date) rows

    in_list : (n i : ℕ) → i < n → is_one i ≡ true → some n ≡ true
    in_list zero i h e = absurd (omega arith)
    in_list (suc n) i h e = by_test (is_one n) (λ t. rw t) (λ f. rw f (in_list n i (not_last n i h e f) e))
      where
        not_last : (n i : ℕ) → i < suc n → is_one i ≡ true → is_one n ≡ false → i < n
        not_last n i h e f =
            ⊎_elim (λ (q : suc i ≡ suc n). absurd (true≢false (sym (subst (λ (k : ℕ). is_one k ≡ true) (omega arith) e) ∙ f)))
            (λ (q : suc i < suc n). omega arith)
            (eq-or-lt_of_le h)

    listed_in : (n : ℕ) → some n ≡ true → Named date rows n
    listed_in zero e = absurd (true≢false (sym e))
    listed_in (suc n) e =
        by_test (is_one n)
        (λ t. record { row = n; listed = omega arith; names = names (row_of rows n) date ok t })
        (λ f. let m = listed_in n (rw f at e) in record { row = m.row; listed = omega (arith, m.listed); names = m.names })

    of_list : (t : Bool) → some count ≡ t → Typed date rows count (cond t 7 (weekday_of date))
    of_list true e =
        let one = listed_in count e in
        record {
          holiday = λ m. refl;
          only = λ z. one;
          ordinary = λ none. absurd (none one);
          leaves = λ i h m o s others.
              absurd (by_test (eqb one.row i)
              (λ q. no_sunday_named (row_of rows i) date ok m s (subst (λ (k : ℕ). Names date (row_of rows k)) (eqb-true one.row i q) one.names))
              (λ q. others one.row one.listed (eqb-false one.row i q) one.names));
        }
    of_list false e =
        record {
          holiday = λ m. absurd (true≢false (sym (in_list count m.row m.listed (is_named_lem (row_of rows m.row) date ok m.names)) ∙ e));
          only = λ z. absurd (omega (arith, weekday_most date));
          ordinary = λ none. refl;
          leaves = λ i h m o s others. s;
        }

    pub typed : Typed date rows count (day_type_of date rows count)
    unfolding day_type_of
    typed = rw ok (of_list _ refl)
