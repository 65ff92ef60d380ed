-- Document 01, 'The site file' and 'Refusals': writing a site record. "Writing checks 14, then 11."
use Rattle.std.specs.Prelude.{ℕ, cond, List, ◌∷◌, ◌++◌, take, Option, Some, None, Result}
use Rattle.numbers.specs.Words.{bytes}
use Rattle.ranges.specs.declared.Section.{Section}
use Rattle.ranges.specs.declared.Section.TheVariants.{Timings, Entries, Holidays, Levels}
use Rattle.ranges.specs.Sections.{greatest_of, size_of}
use Rattle.refusals.specs.declared.Refusal.{Refusal}
use Rattle.refusals.specs.declared.Refusal.TheVariants.{SpoiltSite}
use Rattle.output.specs.Output.{answer_of, buffer_of}
use Rattle.site.specs.declared.Site.{Site}
use Rattle.site.specs.Record.{spoilt_site}

-- A section, after its count.
abbrev pub part_of : Section → ℕ → List ℕ → List ℕ
part_of k n v = n ∷ take (size_of k n) v

-- The four sections in their order.
unfoldable pub words_of : Site → List ℕ
words_of x =
    part_of Timings (greatest_of Timings) x.timings
    ++ (part_of Entries x.entries x.plan
    ++ (part_of Holidays x.holidays x.dates
    ++ part_of Levels x.levels x.tables))

-- The record's file.
abbrev pub bytes_of : Site → List ℕ
bytes_of x = bytes (words_of x)

abbrev pub refusal_of : Site → Option Refusal
refusal_of x = cond (spoilt_site x) (Some SpoiltSite) None

-- What writing into the buffer d answers, and what d then holds.
abbrev pub written_of : Site → List ℕ → Result ℕ Refusal
written_of x d = answer_of (refusal_of x) (bytes_of x) d

abbrev pub out_of : Site → List ℕ → List ℕ
out_of x d = buffer_of (refusal_of x) (bytes_of x) d
