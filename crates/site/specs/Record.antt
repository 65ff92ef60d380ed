-- Document 01, 'Refusals': 14, "a site record that no file could give". "In a record, rows beyond a count are 0."
--
-- That this is what the words say is proved in `RoundTrip`: a record that is not spoilt is given by the file that is written of it
-- (`reads_back`), and no accepted file gives a spoilt one (`rewritten`).
use Rattle.std.specs.Prelude.{ℕ, Bool, not, ◌||◌, List, ltb, length, take, drop}
use Rattle.ranges.specs.declared.Section.{Section}
use Rattle.ranges.specs.declared.Section.TheVariants.{Timings, Entries, Holidays, Levels}
use Rattle.ranges.specs.Sections.{greatest_of, allowed_of, size_of, first_bad, zeros}
use Rattle.site.specs.declared.Site.{Site}

-- Of a section kept as the count n and the numbers v: the count is not allowed, a number is not, or what is beyond is not 0.
unfoldable pub spoilt_of : Section → ℕ → List ℕ → Bool
spoilt_of k n v =
    let rows : List ℕ = take (size_of k n) v in
    not (allowed_of k n) || (ltb (first_bad k rows 0 (length rows)) (size_of k n) || not (zeros (drop (size_of k n) v)))

unfoldable pub spoilt_site : Site → Bool
spoilt_site x =
    spoilt_of Timings (greatest_of Timings) x.timings
    || (spoilt_of Entries x.entries x.plan
    || (spoilt_of Holidays x.holidays x.dates
    || spoilt_of Levels x.levels x.tables))
