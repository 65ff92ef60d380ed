-- A site file from before document 02's A6, with holidays: they have rows of four numbers, and all else is as it is now. A law
-- (`old_refused`) says that such a file is refused, and with which numbers.
use Rattle.std.specs.Prelude.{ℕ, ◌+◌, ◌*◌, ◌≤◌, ◌<◌, ◌≡◌, Bool, false, ◌||◌, List, eqb, length, get_or, Result, Ok, Err, IsOk}
use Rattle.refusals.specs.Numbers.{number_of}
use Rattle.refusals.specs.declared.Refusal.TheVariants.{ShortFile, BadHoliday}
use Rattle.numbers.specs.Words.{words}
use Rattle.ranges.specs.declared.Section.TheVariants.{Timings, Entries, Holidays, Levels}
use Rattle.ranges.specs.Sections.{size_of, greatest_of}
use Rattle.site.specs.declared.Site.{Site}
use Rattle.site.specs.declared.Misread.{Misread}
use Rattle.site.specs.declared.Found.{Found}
use Rattle.site.specs.Reading.{section_of}

-- Number i of the file, the first being 0.
abbrev pub number_at : List ℕ → ℕ → ℕ
number_at f i = get_or (words f) i 0

-- Its plan entries, behind the timings; and behind them, where the holidays' count stands, and how many holidays there are.
abbrev pub entries_of : List ℕ → Result Found Misread
entries_of f = section_of Entries (length f) (words f) (1 + size_of Timings (greatest_of Timings))

abbrev pub behind : Result Found Misread → ℕ
behind (Ok a) = a.next
behind (Err m) = 0

abbrev pub holidays_at : List ℕ → ℕ
holidays_at f = behind (entries_of f)

abbrev pub holidays_of : List ℕ → ℕ
holidays_of f = number_at f (holidays_at f)

-- Where holiday i begins, the first being 0; behind the last one stands the levels' count.
abbrev pub row_at : List ℕ → ℕ → ℕ
row_at f i = holidays_at f + 1 + i * 4

abbrev pub levels_at : List ℕ → ℕ
levels_at f = row_at f (holidays_of f)

pub record RowsOfFour (f : List ℕ) : Type 0 where
  pub timings : IsOk (section_of Timings (length f) (words f) 0)
  pub entries : IsOk (entries_of f)
  -- "Holidays, count 0-16", but not 0.
  pub some : 1 ≤ holidays_of f
  pub most : holidays_of f ≤ greatest_of Holidays
  -- "kind 1 fixed, 2 floating, 3 the day after"; "for kind 1 the day of that month .. and then 0".
  pub kind : (i : ℕ) → i < holidays_of f → 1 ≤ number_at f (row_at f i)
  pub weekday : (i : ℕ) → i < holidays_of f → number_at f (row_at f i) ≡ 1 → number_at f (row_at f i + 3) ≡ 0
  -- "Levels, count 0-24: table 1-4", of which the first level's is enough; behind them the file ends.
  pub table : 1 ≤ number_at f (levels_at f) → (1 ≤ number_at f (levels_at f + 1)) × (number_at f (levels_at f + 1) ≤ 4)
  pub end : length (words f) ≡ levels_at f + 1 + size_of Levels (number_at f (levels_at f))

-- Short file, or bad holiday.
abbrev pub is_short_or_bad : Result Site Misread → Bool
is_short_or_bad (Ok x) = false
is_short_or_bad (Err m) = eqb (number_of m.refusal) (number_of ShortFile) || eqb (number_of m.refusal) (number_of BadHoliday)
