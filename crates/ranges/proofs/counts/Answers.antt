-- Each arm is the definition's case; a count in it is an allowed one.
use Rattle.ranges.specs.Sections.{counts_of}
use Rattle.ranges.specs.declared.Section.TheVariants.{Timings, Entries, Holidays, Levels}
use Rattle.ranges.proofs.RangeLaws.{counts_allowed}
use mathlib.Core.Path.{refl}
use Rattle.ranges.proofs.counts.Goals as goal

pub returns-in-Timings : goal.returns-in-Timings
unfolding counts_of
returns-in-Timings c = rw c.in-Timings.is (record { is = refl; allowed = counts_allowed Timings })

pub returns-in-Entries : goal.returns-in-Entries
unfolding counts_of
returns-in-Entries c = rw c.in-Entries.is (record { is = refl; allowed = counts_allowed Entries })

pub returns-in-Holidays : goal.returns-in-Holidays
unfolding counts_of
returns-in-Holidays c = rw c.in-Holidays.is (record { is = refl; allowed = counts_allowed Holidays })

pub returns-in-Levels : goal.returns-in-Levels
unfolding counts_of
returns-in-Levels c = rw c.in-Levels.is (record { is = refl; allowed = counts_allowed Levels })
