-- A clock in range has a date and a tenth of the day.
use Prim.Native.Nat.{◌≤◌}
use mathlib.Core.Path.{◌≡◌}
use mathlib.Core.Bool.{true, false, not}
use borrow.Author.Tests.{ltb-false, not-false}
use lib.Dec.{ltb}
use Rattle.loops.proofs.AnyLaws.{neither}
use Rattle.calendar.specs.declared.clock.Clock.{Clock}
use Rattle.calendar.specs.Dates.{is_date}
use Rattle.calendar.specs.Clock.{clock_bad}

module _ (clock : Clock) (e : clock_bad clock ≡ false) where
  both : (not (is_date clock.date) ≡ false) × (ltb 863999 clock.tenth ≡ false)
  unfolding clock_bad
  both = neither (not (is_date clock.date)) (ltb 863999 clock.tenth) e

  pub date_good : is_date clock.date ≡ true
  date_good = not-false _ both.0

  pub tenth_good : clock.tenth ≤ 863999
  tenth_good = ltb-false 863999 clock.tenth both.1
