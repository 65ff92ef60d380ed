-- The lengths of a record's arrays, and that a section with an allowed count has no more numbers than its array, or than the levels'.
use Prim.Native.Nat.{ℕ, ◌≤◌}
use mathlib.Core.Path.{◌≡◌}
use mathlib.Core.Bool.{true}
use native.Mathlib.Omega.{arith}
use lib.ListN.{length}
use borrow.Author.Tests.{eqb-true, leb-true}
use Rattle.ranges.specs.declared.Section.{Section}
use Rattle.ranges.specs.declared.Section.TheVariants.{Timings, Entries, Holidays, Levels}
use Rattle.ranges.specs.Sections.{allowed_of, size_of, most_of}
use Rattle.site.specs.declared.Site.{Site}

pub fits : (k : Section) (n : ℕ) → allowed_of k n ≡ true → size_of k n ≤ most_of k
fits Timings n e = omega (arith, eqb-true n 17 e)
fits Entries n e = omega (arith, leb-true n 16 e)
fits Holidays n e = omega (arith, leb-true n 16 e)
fits Levels n e = omega (arith, leb-true n 24 e)

-- No section can have more numbers than the levels.
pub no_longer : (k : Section) → most_of k ≤ most_of Levels
no_longer Timings = omega arith
no_longer Entries = omega arith
no_longer Holidays = omega arith
no_longer Levels = omega arith

pub record Sized (x : Site) : Type 0 where
  pub timings : length x.timings ≡ most_of Timings
  pub plan : length x.plan ≡ most_of Entries
  pub dates : length x.dates ≡ most_of Holidays
  pub tables : length x.tables ≡ most_of Levels
