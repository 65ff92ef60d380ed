-- Document 01, 'Worked runs': "Site A: n 2, V 1, exclusion, greens 10 and 20, yellow 20, red 20, warning 100, startup 50, 30, 50, minimum
-- pre-metering 10, the other timings at their least." Those that document 02's A4 adds are 0, for no priority lane and no timeout.
use Rattle.std.specs.Prelude.{ℕ, List, [], ◌∷◌}
use Rattle.ranges.specs.declared.Section.TheVariants.{Entries, Holidays, Levels}
use Rattle.site.specs.declared.Site.{Site}
use Rattle.site.specs.Reading.{none_of}

-- These timings, and empty lists.
abbrev pub timed : List ℕ → Site
timed timings = record {
  timings = timings;
  entries = 0;
  plan = none_of Entries;
  holidays = 0;
  dates = none_of Holidays;
  levels = 0;
  tables = none_of Levels;
}

-- With so many lanes, in a service mode: 0 mutual exclusion, 1 fractional offset.
abbrev pub site_with : ℕ → ℕ → Site
site_with lanes mode = timed (lanes ∷ mode ∷ 1 ∷ 10 ∷ 20 ∷ 20 ∷ 20 ∷ 100 ∷ 50 ∷ 30 ∷ 50 ∷ 10 ∷ 1 ∷ 10 ∷ 1 ∷ 0 ∷ 0 ∷ [])

-- So many lanes, in a service mode, with these vehicles per green, maximum green and yellow; every other timing at its least.
abbrev pub least_of : ℕ → ℕ → ℕ → ℕ → ℕ → Site
least_of lanes mode vehicles maxgreen yellow =
    timed (lanes ∷ mode ∷ vehicles ∷ 10 ∷ maxgreen ∷ yellow ∷ 10 ∷ 10 ∷ 10 ∷ 10 ∷ 10 ∷ 10 ∷ 1 ∷ 1 ∷ 1 ∷ 0 ∷ 0 ∷ [])

-- Two lanes, every timing at its least.
abbrev pub least_site : ℕ → Site
least_site mode = least_of 2 mode 1 10 10

-- The longest greens and yellows.
abbrev pub slow_site : Site
slow_site = least_of 2 0 1 100 60

abbrev pub site_a : Site
site_a = site_with 2 0

abbrev pub site_a_with_offset : Site
site_a_with_offset = site_with 2 1
