-- A site file from before document 02's A6 is refused, unless it has no holidays: its rows of four do not pass for rows of five.
use Prim.Native.Nat.{ℕ, ◌+◌, ◌*◌, ◌≤◌, ◌<◌}
use mathlib.Core.Path.{◌≡◌, refl, ap, sym, subst, ◌∙◌}
use mathlib.Core.Bool.{true, false, false≢true}
use mathlib.Core.List.{List}
use native.Mathlib.Omega.{arith}
use borrow.Author.Tests.{eqb-true, eqb-false, leb-true, leb-false, ltb-true, ltb-false, le-leb}
use lib.Dec.{eqb, leb, ltb}
use lib.ListN.{length, get_or, drop}
use lib.Seq.{get_or-take, get_or-drop}
use Rattle.loops.proofs.Cases.{by_test}
use Rattle.numbers.specs.Words.{words}
use Rattle.numbers.specs.Within.{is_within}
use Rattle.numbers.proofs.WithinLaws.{ends}
use Rattle.ranges.specs.declared.Section.TheVariants.{Timings, Entries, Holidays, Levels}
use Rattle.ranges.specs.Ranges.{day_or_week_range, move_range, holiday_range}
use Rattle.ranges.specs.Sections.{range_of, may_be_unused, first_bad}
use Rattle.ranges.proofs.RangeLaws.{within_before}
use Rattle.site.specs.declared.Found.{Found}
use Rattle.std.specs.Prelude.{Result, Ok, Err, IsOk}
use Rattle.refusals.specs.Numbers.{number_of}
use Rattle.refusals.specs.declared.Refusal.{Refusal}
use Rattle.refusals.specs.declared.Refusal.TheVariants.{ShortFile, BadHoliday}
use Rattle.site.specs.declared.Misread.{Misread}
use Rattle.site.specs.Reading.{numbers_of, refused, section_of, read_of}
use Rattle.site.specs.RowsOfFour.{number_at, behind, holidays_at, holidays_of, levels_at, RowsOfFour, is_short_or_bad}
use Rattle.site.proofs.SectionLaws.{no_count, no_rows, bad_number, good, one_found, Accepted, accepted}
use Rattle.site.proofs.ReadLaws.{refused_2, refused_3}

move_most : (kind : ℕ) → (move_range kind).high ≤ 1
unfolding move_range
move_most kind = by_test (eqb kind 1) (λ e. rw e (omega arith)) (λ e. rw e (omega arith))

day_least : (kind month : ℕ) → 1 ≤ (day_or_week_range kind month).low
unfolding day_or_week_range
day_least kind month = by_test (eqb kind 1) (λ e. rw e (omega arith)) (λ e. rw e (omega arith))

-- What an accepted section was found to be.
abbrev found : (r : Result Found Misread) → IsOk r → (a : Found) × (r ≡ Ok a)
found (Ok a) h = (a, refl)
found (Err m) h = absurd (false≢true h)

module _ (f : List ℕ) (o : RowsOfFour f) where
  abbrev ws : List ℕ
  ws = words f

  abbrev q : ℕ
  q = holidays_at f

  abbrev n : ℕ
  n = holidays_of f

  abbrev t : Found
  t = (found _ o.timings).0

  timings_are : section_of Timings (length f) ws 0 ≡ Ok t
  timings_are = (found _ o.timings).1

  abbrev e : Found
  e = (found _ o.entries).0

  entries_at : t.next ≡ 18
  entries_at =
      let g : Accepted Timings (length f) ws 0 = accepted Timings (length f) ws 0 timings_are in
      let is : t ≡ record { count = get_or ws 0 0; next = 1 + get_or ws 0 0 * 1 } = one_found _ timings_are g.is in
      ap (λ (y : Found). y.next) is ∙ ap (λ (k : ℕ). 1 + k * 1) (eqb-true _ _ g.allowed)

  entries_are : section_of Entries (length f) ws t.next ≡ Ok e
  entries_are = ap (section_of Entries (length f) ws) entries_at ∙ (found _ o.entries).1

  behind_entries : e.next ≡ q
  behind_entries = ap behind (sym (found _ o.entries).1)

  -- Where the holidays, read in rows of five, are refused.
  by_holidays : (refusal : Refusal) (place : ℕ) → section_of Holidays (length f) ws q ≡ refused refusal place → read_of f ≡ refused refusal place
  by_holidays refusal place h = refused_2 f t timings_are e entries_are (ap (section_of Holidays (length f) ws) behind_entries ∙ h)

  -- Where they are accepted: a number that they then have is in its range.
  module _ (g : Accepted Holidays (length f) ws q) where
    abbrev v : List ℕ
    v = numbers_of Holidays ws q

    in_range : (j : ℕ) → j < n * 5 → may_be_unused Holidays j ≡ false → is_within (range_of Holidays v j) (number_at f (q + 1 + j)) ≡ true
    in_range j l u =
        rw (get_or-take (n * 5) (drop (q + 1) ws) j 0 l, get_or-drop (q + 1) ws j 0) at
        (within_before Holidays v (length v) j (omega (arith, g.in_range)) u)

    fifth : number_at f (q + 1 + 4) ≤ 1
    unfolding range_of holiday_range may_be_unused
    fifth = omega (arith, (ends (move_range (get_or v 0 0)) _ (in_range 4 (omega (arith, o.some)) refl)).1, move_most (get_or v 0 0))

    third : 2 ≤ n → 1 ≤ number_at f (q + 1 + 7)
    unfolding range_of holiday_range may_be_unused
    third l = omega (arith, (ends (day_or_week_range (get_or v 5 0) (get_or v 6 0)) _ (in_range 7 (omega arith) refl)).0, day_least (get_or v 5 0) (get_or v 6 0))

    -- There is one row alone: of more, the second row's kind would be the first's fifth number, and its 0 a day.
    one : n ≡ 1
    one =
        by_test (leb 2 n)
        (λ e.
        let several : 2 ≤ n = leb-true 2 n e in
        let second : number_at f (q + 1 + 4) ≡ 1 = omega (arith, o.kind 1 (omega arith), fifth) in
        let place : q + 1 + 7 ≡ q + 1 + 1 * 4 + 3 = omega arith in
        let none : number_at f (q + 1 + 7) ≡ 0 = ap (number_at f) place ∙ o.weekday 1 (omega arith) second in
        absurd (omega (arith, third several)))
        (λ e. omega (arith, leb-false 2 n e, o.some))

    abbrev levels : ℕ
    levels = number_at f (levels_at f)

    levels_at_lem : levels_at f ≡ q + 1 + 4
    levels_at_lem = omega (arith, one)

    -- And behind that row, with the levels' count for its fifth number, there is no level, or not the whole of one.
    no_levels : section_of Levels (length f) ws (q + 6) ≡ refused ShortFile (length f)
    no_levels =
        let count : levels ≤ 1 = rw levels_at_lem fifth in
        by_test (eqb levels 0)
        (λ e. no_count Levels (length f) ws (q + 6) (omega (arith, o.end, eqb-true levels 0 e, levels_at_lem)))
        (λ e.
        let some : 1 ≤ levels = omega (arith, eqb-false levels 0 e) in
        let table : (1 ≤ number_at f (q + 6)) × (number_at f (q + 6) ≤ 4) =
        subst (λ (i : ℕ). (1 ≤ number_at f i) × (number_at f i ≤ 4)) (omega (arith, levels_at_lem)) (o.table some) in
        no_rows Levels (length f) ws (q + 6) (omega (arith, o.end, levels_at_lem)) (number_at f (q + 6)) refl
        (le-leb (number_at f (q + 6)) 24 (omega (arith, table.1))) (number_at f (q + 6) * 5) refl
        (omega (arith, o.end, levels_at_lem, count, table.0)))

    by_levels : read_of f ≡ refused ShortFile (length f)
    by_levels =
        let next : q + 1 + n * 5 ≡ q + 6 = omega (arith, one) in
        refused_3 f t timings_are e entries_are _ (ap (section_of Holidays (length f) ws) behind_entries ∙ g.is)
        (ap (section_of Levels (length f) ws) next ∙ no_levels)

  pub old_refused : is_short_or_bad (read_of f) ≡ true
  unfolding number_of
  old_refused =
      let there : q < length ws = omega (arith, o.end) in
      let allowed : leb n 16 ≡ true = le-leb n 16 o.most in
      by_test (leb (q + 1 + n * 5) (length ws))
      (λ w.
      by_test (ltb (first_bad Holidays (numbers_of Holidays ws q) 0 (length (numbers_of Holidays ws q))) (n * 5))
      (λ b. rw (by_holidays BadHoliday _ (bad_number Holidays (length f) ws q there n refl allowed (n * 5) refl (leb-true _ _ w) _ refl (ltb-true _ _ b))))
      (λ b.
      let i = good Holidays (length f) ws q there n refl allowed (n * 5) refl (leb-true _ _ w) _ refl (ltb-false _ _ b) in
      rw (by_levels (accepted Holidays (length f) ws q i))))
      (λ w. rw (by_holidays ShortFile _ (no_rows Holidays (length f) ws q there n refl allowed (n * 5) refl (omega (arith, leb-false (q + 1 + n * 5) (length ws) w)))))
