-- Document 01, 'Refusals': reading a site file, for every sequence of bytes.
use Rattle.std.specs.Prelude.{ℕ, ◌+◌, ◌*◌, cond, List, ◌++◌, ltb, leb, eqb, length, get_or, take, drop, replicate, Result, Ok, Err}
use Rattle.refusals.specs.declared.Refusal.{Refusal}
use Rattle.refusals.specs.declared.Refusal.TheVariants.{ShortFile, WrongCount, LongFile}
use Rattle.numbers.specs.Words.{words}
use Rattle.ranges.specs.declared.Section.{Section}
use Rattle.ranges.specs.declared.Section.TheVariants.{Timings, Entries, Holidays, Levels}
use Rattle.ranges.specs.Sections.{allowed_of, size_of, most_of, bad_number_of, first_bad}
use Rattle.site.specs.declared.Site.{Site}
use Rattle.site.specs.declared.Misread.{Misread}
use Rattle.site.specs.declared.Found.{Found}

-- "A refused file gives the number, its place and a site record of zeros." An `Err` has the refusal and its place; in place of the record of
-- zeros there is none.
abbrev pub refused : {A : Type 0} → Refusal → ℕ → Result A Misread
refused refusal place = Err (record { refusal = refusal; place = place })

-- What reading goes on with behind a section, where that is accepted.
abbrev pub after : {A B : Type 0} → Result A Misread → (A → Result B Misread) → Result B Misread
after (Ok a) goes_on = goes_on a
after (Err m) goes_on = Err m

-- The numbers of the section of kind k whose count is number q of the file's numbers ws.
abbrev pub numbers_of : Section → List ℕ → ℕ → List ℕ
numbers_of k ws q = take (size_of k (get_or ws q 0)) (drop (q + 1) ws)

-- "Count present (1), count allowed (2), section present (1), its numbers left to right (3-6)." "The place is the file's length for 1,
-- else the offset of the offending number." The file has len bytes; an offset in bytes is twice one in numbers.
unfoldable pub section_of : Section → ℕ → List ℕ → ℕ → Result Found Misread
section_of k len ws q =
    let n : ℕ = get_or ws q 0 in
    let w : ℕ = size_of k n in
    let v : List ℕ = numbers_of k ws q in
    let bad : ℕ = first_bad k v 0 (length v) in
    cond (ltb q (length ws))
    (cond (allowed_of k n)
    (cond (leb (q + 1 + w) (length ws))
    (cond (ltb bad w)
    (refused (bad_number_of k) ((q + 1 + bad) * 2))
    (Ok (record { count = n; next = q + 1 + w })))
    (refused ShortFile len))
    (refused WrongCount (q * 2)))
    (refused ShortFile len)

-- A section of which the record has nothing.
abbrev pub none_of : Section → List ℕ
none_of k = replicate (most_of k) 0

-- The most numbers that a site file can have: a count and the most rows of each section. The longest file has two bytes for each.
abbrev pub most_numbers : ℕ
most_numbers = 4 + most_of Timings + most_of Entries + most_of Holidays + most_of Levels

abbrev pub longest_file : ℕ
longest_file = most_numbers * 2

-- The numbers of a section over the front of d.
abbrev pub filled_of : Section → List ℕ → ℕ → List ℕ → List ℕ
filled_of k ws q d = numbers_of k ws q ++ drop (size_of k (get_or ws q 0)) d

-- "Reading goes section by section"; "then 7", at the extra byte.
unfoldable pub read_of : List ℕ → Result Site Misread
read_of s =
    let ws : List ℕ = words s in
    after (section_of Timings (length s) ws 0)
    (λ t.
    after (section_of Entries (length s) ws t.next)
    (λ e.
    after (section_of Holidays (length s) ws e.next)
    (λ h.
    after (section_of Levels (length s) ws h.next)
    (λ l.
    cond (eqb (l.next * 2) (length s))
    (Ok (record {
      timings = filled_of Timings ws 0 (none_of Timings);
      entries = e.count;
      plan = filled_of Entries ws t.next (none_of Entries);
      holidays = h.count;
      dates = filled_of Holidays ws e.next (none_of Holidays);
      levels = l.count;
      tables = filled_of Levels ws h.next (none_of Levels);
    }))
    (refused LongFile (l.next * 2))))))
