-- The day type and the entry in force: what the words say; the entry is one of the plan's.
use Prim.Native.Nat.{ℕ, ◌≤◌}
use mathlib.Core.Path.{◌≡◌}
use mathlib.Core.Bool.{false}
use native.Mathlib.Omega.{arith}
use Rattle.site.specs.declared.Site.{Site}
use Rattle.site.specs.Record.{spoilt_site}
use Rattle.site.proofs.RowLaws.{entry_start}
use Rattle.calendar.specs.declared.clock.Clock.{Clock}
use Rattle.calendar.specs.Clock.{clock_bad}
use Rattle.calendar.specs.Named.{Typed}
use Rattle.calendar.proofs.DayTypeLaws.{typed}
use Rattle.plan.specs.InForce.{in_force_of}
use Rattle.plan.proofs.InForceLaws.{is_in_force, in_force_in}
use Rattle.plan.proofs.PastMidnightLaws.{is_now, of_place}
use Rattle.wanted.specs.Decision.{day_of, minute_of, entry_in_force, EntryInForce}
use Rattle.wanted.proofs.ClockLaws.{date_good}

module _ (x : Site) (clock : Clock) where
  pub day_is : clock_bad clock ≡ false → Typed clock.date x.dates x.holidays (day_of x clock)
  unfolding day_of
  day_is ok = typed clock.date x.dates x.holidays (date_good clock ok)

  pub entry_is : spoilt_site x ≡ false → clock_bad clock ≡ false → EntryInForce x clock (entry_in_force x clock)
  unfolding entry_in_force
  entry_is sound ok = record {
    in_force = is_now (in_force_of x.plan x.entries) x.dates x.holidays clock.date (minute_of clock) (date_good clock ok);
    latest = is_in_force x.plan x.entries;
    begun = entry_start x sound;
    typed = λ date e. typed date x.dates x.holidays e;
  }

  pub entry_in : entry_in_force x clock ≤ x.entries
  unfolding entry_in_force
  entry_in =
      of_place (in_force_of x.plan x.entries) x.dates x.holidays (λ (place : ℕ). place ≤ x.entries) (omega arith)
      (in_force_in x.plan x.entries) clock.date (minute_of clock)
