-- How long a record's file is, at the most the longest; and what its four sections leave that are stored one behind the other.
use Prim.Native.Nat.{ℕ, ◌+◌, ◌*◌, ◌≤◌}
use mathlib.Core.Path.{◌≡◌, ap, sym, ◌∙◌}
use mathlib.Core.Bool.{false}
use mathlib.Core.List.{List, ◌++◌}
use native.Mathlib.Omega.{arith}
use lib.ListN.{length, drop, length-append}
use lib.Seq.{sets, length-take-le}
use Rattle.numbers.specs.Words.{bytes}
use Rattle.numbers.proofs.StoreLaws.{length_bytes, bytes_append}
use Rattle.output.proofs.SetsLaws.{sets_append, over_front}
use Rattle.ranges.specs.declared.Section.{Section}
use Rattle.ranges.specs.declared.Section.TheVariants.{Timings, Entries, Holidays, Levels}
use Rattle.ranges.specs.Sections.{size_of, most_of}
use Rattle.site.specs.declared.Site.{Site}
use Rattle.site.specs.Record.{spoilt_site}
use Rattle.site.specs.Reading.{longest_file}
use Rattle.site.specs.Writing.{part_of, words_of, bytes_of}
use Rattle.site.proofs.Sizes.{fits, Sized}
use Rattle.site.proofs.SpoiltLaws.{Sound, SoundSite, sound_site}

-- Four runs of bytes, stored one behind the other.
four_runs : (o t e h l : List ℕ) (a b c : ℕ) → length t ≡ a → a + length e ≡ b → b + length h ≡ c
    → sets (sets (sets (sets o 0 t) a e) b h) c l ≡ sets o 0 (t ++ (e ++ (h ++ l)))
four_runs o t e h l a b c et ee eh =
    sets_append (sets (sets o 0 t) a e) b c h l (sym eh) ∙ sets_append (sets o 0 t) a b e (h ++ l) (sym ee) ∙ sets_append o 0 a t (e ++ (h ++ l)) (omega arith)

module _ (x : Site) where
  abbrev pub timings_bytes : List ℕ
  timings_bytes = bytes (part_of Timings 17 x.timings)

  abbrev pub entries_bytes : List ℕ
  entries_bytes = bytes (part_of Entries x.entries x.plan)

  abbrev pub holidays_bytes : List ℕ
  holidays_bytes = bytes (part_of Holidays x.holidays x.dates)

  abbrev pub levels_bytes : List ℕ
  levels_bytes = bytes (part_of Levels x.levels x.tables)

  is_four : bytes_of x ≡ timings_bytes ++ (entries_bytes ++ (holidays_bytes ++ levels_bytes))
  unfolding words_of
  is_four =
      bytes_append (part_of Timings 17 x.timings) _
      ∙ ap (λ (l : List ℕ). timings_bytes ++ l)
      (bytes_append (part_of Entries x.entries x.plan) _ ∙ ap (λ (l : List ℕ). entries_bytes ++ l) (bytes_append (part_of Holidays x.holidays x.dates) _))

  module _ (sized : Sized x) (ok : spoilt_site x ≡ false) where
    part_length : (k : Section) (n : ℕ) (v : List ℕ) → Sound k n v → length v ≡ most_of k → length (bytes (part_of k n v)) ≡ 2 + size_of k n * 2
    part_length k n v g l = let e = length-take-le (size_of k n) v (let f = fits k n g.allowed in omega arith) in length_bytes (part_of k n v) ∙ omega arith

    abbrev s : SoundSite x
    s = sound_site x ok

    pub length_file : length (bytes_of x) ≡ 42 + (size_of Entries x.entries + size_of Holidays x.holidays + size_of Levels x.levels) * 2
    length_file =
        let t = part_length Timings 17 x.timings s.timings sized.timings in
        let e = part_length Entries x.entries x.plan s.plan sized.plan in
        let h = part_length Holidays x.holidays x.dates s.dates sized.dates in
        let l = part_length Levels x.levels x.tables s.tables sized.tables in
        ap length is_four ∙ simp length-append (omega arith)

    pub file_most : length (bytes_of x) ≤ longest_file
    file_most =
        let e = fits Entries x.entries s.plan.allowed in
        let h = fits Holidays x.holidays s.dates.allowed in
        let l = fits Levels x.levels s.tables.allowed in
        omega (arith, length_file)

    -- The sections stored one behind the other, from the front of o on, are the file over the front of o.
    pub four_stores : (o : List ℕ) (a b c : ℕ)
        → a ≡ 36
        → b ≡ a + (2 + size_of Entries x.entries * 2)
        → c ≡ b + (2 + size_of Holidays x.holidays * 2)
        → length (bytes_of x) ≤ length o
        → sets (sets (sets (sets o 0 timings_bytes) a entries_bytes) b holidays_bytes) c levels_bytes ≡ bytes_of x ++ drop (length (bytes_of x)) o
    four_stores o a b c ea eb ec l =
        four_runs o timings_bytes entries_bytes holidays_bytes levels_bytes a b c
        (part_length Timings 17 x.timings s.timings sized.timings ∙ sym ea)
        (rw (part_length Entries x.entries x.plan s.plan sized.plan) (sym eb))
        (rw (part_length Holidays x.holidays x.dates s.dates sized.dates) (sym ec))
        ∙ ap (sets o 0) (sym is_four)
        ∙ over_front (bytes_of x) o l
