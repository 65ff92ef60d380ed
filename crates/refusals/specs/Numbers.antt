-- The refusals' numbers, as the tables of document 01 and of the change requests give them.
use Rattle.std.specs.Prelude.{ℕ}
use Rattle.refusals.specs.declared.Refusal.{Refusal}
use Rattle.refusals.specs.declared.Refusal.TheVariants.{ShortFile, WrongCount, BadTiming, BadEntry, BadHoliday, BadLevel, LongFile, BadClock, BadSample, BadCommand, SmallBuffer, NoPeriod, SpoiltState, SpoiltSite, BadRecord, BadApproach, TooManyEntries, BadNumber}

unfoldable pub number_of : Refusal → ℕ
number_of ShortFile = 1
number_of WrongCount = 2
number_of BadTiming = 3
number_of BadEntry = 4
number_of BadHoliday = 5
number_of BadLevel = 6
number_of LongFile = 7
number_of BadClock = 8
number_of BadSample = 9
number_of BadCommand = 10
number_of SmallBuffer = 11
number_of NoPeriod = 12
number_of SpoiltState = 13
number_of SpoiltSite = 14
number_of BadRecord = 15
number_of BadApproach = 16
number_of TooManyEntries = 17
number_of BadNumber = 18
