-- A row of the first n names today if one of them does, wherever the search begins.
use Prim.Native.Nat.{ℕ, zero, suc, ◌+◌}
use mathlib.Core.Path.{◌≡◌, refl, ap}
use mathlib.Core.Bool.{Bool, ◌||◌}
use native.Mathlib.Omega.{arith}
use mathlib.Core.List.{List}
use Rattle.loops.specs.Any.{any_from}
use Rattle.loops.proofs.AnyLaws.{any_last}
use Rattle.calendar.specs.declared.day.Day.{Day}
use Rattle.calendar.specs.Holidays.{row_of, is_named, is_holiday}

pub holiday_any : (today yesterday : Day) (rows : List ℕ) (n : ℕ) → any_from (λ i. is_named today yesterday (row_of rows i)) 0 n ≡ is_holiday today yesterday rows n
holiday_any today yesterday rows zero = refl
holiday_any today yesterday rows (suc n) =
    let e : 0 + n ≡ n = omega arith in
    rw (any_last (λ (i : ℕ). is_named today yesterday (row_of rows i)) 0 n, e)
    (ap (λ (b : Bool). is_named today yesterday (row_of rows n) || b) (holiday_any today yesterday rows n))
