-- How great the numbers are.
use Prim.Native.Nat.{◌≤◌}
use native.Mathlib.Omega.{arith}
use Rattle.refusals.specs.declared.Refusal.{Refusal}
use Rattle.refusals.specs.declared.Refusal.TheVariants.{ShortFile, WrongCount, BadTiming, BadEntry, BadHoliday, BadLevel, LongFile, BadClock, BadSample, BadCommand, SmallBuffer, NoPeriod, SpoiltState, SpoiltSite, BadRecord, BadApproach, TooManyEntries, BadNumber}
use Rattle.refusals.specs.Numbers.{number_of}

pub number_most : (r : Refusal) → number_of r ≤ 18
unfolding number_of
number_most ShortFile = omega arith
number_most WrongCount = omega arith
number_most BadTiming = omega arith
number_most BadEntry = omega arith
number_most BadHoliday = omega arith
number_most BadLevel = omega arith
number_most LongFile = omega arith
number_most BadClock = omega arith
number_most BadSample = omega arith
number_most BadCommand = omega arith
number_most SmallBuffer = omega arith
number_most NoPeriod = omega arith
number_most SpoiltState = omega arith
number_most SpoiltSite = omega arith
number_most BadRecord = omega arith
number_most BadApproach = omega arith
number_most TooManyEntries = omega arith
number_most BadNumber = omega arith
