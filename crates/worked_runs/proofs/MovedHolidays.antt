-- Holidays that move, and their fifth number in the site file, by computation.
use Prim.Native.Nat.{ℕ, zero, suc, ◌<◌}
use mathlib.Core.Path.{refl}
use native.Mathlib.Omega.{arith}
use borrow.Author.Tests.{leb-true}
use Rattle.worked_runs.specs.MovedHolidays.{MovedHolidays, FiveNumbers, FromBefore}
use Rattle.worked_runs.proofs.Computing.{computing}

pub moved_holidays : MovedHolidays
unfolding computing
moved_holidays = record {
  sunday = refl;
  monday = refl;
  monday_night = refl;
  tuesday_night = refl;
  tuesday = refl;
  stays_sunday = refl;
  plain_monday = refl;
  stays_monday = refl;
  then_tuesday = refl;
  stays_saturday = refl;
  then_sunday = refl;
  named_sunday = refl;
  monday_too = refl;
  last_of_2023 = refl;
  first_of_2024 = refl;
  second_of_2024 = refl;
  leap_sundays_lem = refl;
  leap_sunday = refl;
  leap_monday = refl;
  leap_tuesday = refl;
  no_leap_day = refl;
  first_day = refl;
}

pub five_numbers : FiveNumbers
unfolding computing
five_numbers = record {
  moving = refl;
  above_1 = refl;
  on_kind_2 = refl;
  on_kind_3 = refl;
  longest_file_lem = refl;
  longest_is = refl;
  longest_accepted = refl;
}

-- What holds of the first row, or of both.
of_one : (P : ℕ → Type 0) → P 0 → (i : ℕ) → i < 1 → P i
of_one P p zero h = p
of_one P p (suc i) h = absurd (omega arith)

of_two : (P : ℕ → Type 0) → P 0 → P 1 → (i : ℕ) → i < 2 → P i
of_two P p q zero h = p
of_two P p q (suc zero) h = q
of_two P p q (suc (suc i)) h = absurd (omega arith)

pub from_before : FromBefore
unfolding computing
from_before = record {
  march = record {
    timings = refl;
    entries = refl;
    some = leb-true 1 1 refl;
    most = leb-true 1 16 refl;
    kind = of_one _ (leb-true 1 1 refl);
    weekday = of_one _ (λ z. refl);
    table = λ z. (leb-true 1 1 refl, leb-true 1 4 refl);
    end = refl;
  };
  two = record {
    timings = refl;
    entries = refl;
    some = leb-true 1 2 refl;
    most = leb-true 2 16 refl;
    kind = of_two _ (leb-true 1 1 refl) (leb-true 1 1 refl);
    weekday = of_two _ (λ z. refl) (λ z. refl);
    table = λ z. (leb-true 1 1 refl, leb-true 1 4 refl);
    end = refl;
  };
  march_refused = refl;
  two_refused = refl;
}
