-- Each name has its number.
use Rattle.std.proofs.Common.{◌≡◌, ◌+◌}
use mathlib.Core.Path.{refl}
use Rattle.refusals.specs.Numbers.{number_of}
use denote.Enum.Declared.{tag_of}
use Rattle.refusals.specs.contracts.Refusal.{the_type}
use Rattle.refusals.specs.declared.Refusal.TheVariants.{ShortFile, WrongCount, BadTiming, BadEntry, BadHoliday, BadLevel, LongFile, BadClock, BadSample, BadCommand, SmallBuffer, NoPeriod, SpoiltState, SpoiltSite, BadRecord, BadApproach, TooManyEntries, BadNumber}
use Rattle.refusals.proofs.Refusal.number.Goals as goal

pub returns : goal.returns
unfolding number_of
returns c = elim c.args.self as (λ x. tag_of the_type x + 1 ≡ number_of x) [
  | ShortFile ↦ refl
  | WrongCount ↦ refl
  | BadTiming ↦ refl
  | BadEntry ↦ refl
  | BadHoliday ↦ refl
  | BadLevel ↦ refl
  | LongFile ↦ refl
  | BadClock ↦ refl
  | BadSample ↦ refl
  | BadCommand ↦ refl
  | SmallBuffer ↦ refl
  | NoPeriod ↦ refl
  | SpoiltState ↦ refl
  | SpoiltSite ↦ refl
  | BadRecord ↦ refl
  | BadApproach ↦ refl
  | TooManyEntries ↦ refl
  | BadNumber ↦ refl
]
