-- No text is longer than the longest: on a day type an entry has one line at the most, and that has 26 bytes at the most, in places 1 to 9
-- 25.
use Prim.Native.Nat.{ℕ, zero, suc, ◌+◌, ◌-◌, ◌*◌, ◌^◌, ◌≤◌, ◌<◌}
use mathlib.Core.Path.{◌≡◌, refl}
use mathlib.Core.Bool.{Bool, true, false, cond}
use mathlib.Core.List.{List}
use native.Mathlib.Omega.{arith}
use borrow.Author.Tests.{ltb-true, eqb-true, eqb-false}
use lib.Dec.{ltb, eqb}
use lib.ListN.{length, length-append}
use Rattle.std.specs.Prelude.{Result, Ok, Err, IfOk, IfErr}
use Rattle.refusals.specs.declared.Refusal.{Refusal}
use Rattle.refusals.specs.Numbers.{number_of}
use Rattle.refusals.proofs.NumberLaws.{number_most}
use Rattle.text.specs.Decimal.{decimal}
use Rattle.text.proofs.DecimalLaws.{tens, decimal_most}
use Rattle.phrases.specs.Phrases.{refusal_line}
use Rattle.phrases.proofs.DayNames.{day_name_most}
use Rattle.entry_text.proofs.Names.{timed_most}
use Rattle.plan.specs.declared.Entry.{Entry}
use Rattle.plan.specs.Entry.{entry_of, on_day}
use Rattle.site.specs.declared.Site.{Site}
use Rattle.site.specs.declared.Misread.{Misread}
use Rattle.site.specs.Record.{spoilt_site}
use Rattle.site.proofs.RowLaws.{entries_most, entry_rate_most, entry_table_most}
use Rattle.listing.specs.Timetable.{line_of, line_if, starting_at, minutes_from, days_from, timetable_of, printed_of, longest_text}

-- One line.
line_most_lem : (day filed : ℕ) (e : Entry) → e.rate ≤ 1800 → e.table ≤ 4 → (length (decimal filed) ≤ 1 → length (line_of day e filed) ≤ 25) × (length (decimal filed) ≤ 2 → length (line_of day e filed) ≤ 26)
unfolding line_of
line_most_lem day filed e r t =
    let a = day_name_most day in
    let b = timed_most e r t in
    (λ f. simp length-append (omega arith), λ f. simp length-append (omega arith))

-- What a refused file prints.
refusal_most : (refusal place : ℕ) → refusal < 1000 → place < tens 19 → length (refusal_line refusal place) ≤ 36
unfolding refusal_line
refusal_most refusal place r p = simp length-append (omega (arith, decimal_most 2 refusal r, decimal_most 19 place p))

-- The most bytes of a line in place i + 1, and of n entries' lines on one day from there on.
abbrev line_most : ℕ → ℕ
line_most i = cond (ltb i 9) 25 26

abbrev most : ℕ → ℕ → ℕ
most i zero = 0
most i (suc n) = line_most i + most (i + 1) n

most_more : (i n k : ℕ) → most i n ≤ most i (n + k)
most_more i zero k = omega arith
most_more i (suc n) k = let e : suc n + k ≡ suc (n + k) = omega arith in rw e (omega (arith, most_more (i + 1) n k))

most_all : (n : ℕ) → n ≤ 16 → most 0 n ≤ 407
most_all n h = let e : n + (16 - n) ≡ 16 = omega arith in rw e at (most_more 0 n (16 - n))

module _ (rows : List ℕ) (count day : ℕ) (short : (j : ℕ) → j < count → length (line_of day (entry_of rows j) (j + 1)) ≤ line_most j) where
  -- The bytes of one entry's lines in the next k minutes, and those of n entries.
  abbrev of_entry : ℕ → ℕ → ℕ → ℕ
  of_entry i m zero = 0
  of_entry i m (suc k) = length (line_if day m (entry_of rows i) (i + 1)) + of_entry i (m + 1) k

  abbrev of_entries : ℕ → ℕ → ℕ → ℕ → ℕ
  of_entries i n m zero = 0
  of_entries i n m (suc k) = length (starting_at rows day m i n) + of_entries i n (m + 1) k

  -- An entry has one line at most, at its start.
  line_if_lem : (i m : ℕ) (a b : Bool) → on_day (entry_of rows i).days day ≡ a → eqb (entry_of rows i).start m ≡ b
      → ((entry_of rows i).start ≡ m → length (line_if day m (entry_of rows i) (i + 1)) ≤ length (line_of day (entry_of rows i) (i + 1)))
      × (((entry_of rows i).start ≡ m → ⊥) → length (line_if day m (entry_of rows i) (i + 1)) ≡ 0)
  unfolding line_if
  line_if_lem i m true true ea eb = (λ z. rw (ea, eb) (omega arith), λ n. absurd (n (eqb-true _ _ eb)))
  line_if_lem i m true false ea eb = (λ z. rw (ea, eb) (omega arith), λ n. rw (ea, eb))
  line_if_lem i m false b ea eb = (λ z. rw ea (omega arith), λ n. rw ea)

  none_left : (i m k : ℕ) → (entry_of rows i).start < m → of_entry i m k ≡ 0
  none_left i m zero h = refl
  none_left i m (suc k) h = omega (arith, (line_if_lem i m _ _ refl refl).1 (λ z. omega arith), none_left i (m + 1) k (omega arith))

  entry_case : (i m k : ℕ) (b : Bool) → eqb (entry_of rows i).start m ≡ b → (of_entry i (m + 1) k ≤ length (line_of day (entry_of rows i) (i + 1)))
      → of_entry i m (suc k) ≤ length (line_of day (entry_of rows i) (i + 1))
  entry_case i m k true e rest =
      let z = eqb-true (entry_of rows i).start m e in
      omega (arith, (line_if_lem i m _ _ refl refl).0 z, none_left i (m + 1) k (omega arith))
  entry_case i m k false e rest = omega (arith, (line_if_lem i m _ _ refl refl).1 (eqb-false (entry_of rows i).start m e))

  of_entry_lem : (i m k : ℕ) → of_entry i m k ≤ length (line_of day (entry_of rows i) (i + 1))
  of_entry_lem i m zero = omega arith
  of_entry_lem i m (suc k) = entry_case i m k _ refl (of_entry_lem i (m + 1) k)

  first_apart : (i n m k : ℕ) → of_entries i (suc n) m k ≡ of_entry i m k + of_entries (i + 1) n m k
  first_apart i n m zero = refl
  first_apart i n m (suc k) = rw length-append (omega (arith, first_apart i n (m + 1) k))

  of_none : (i m k : ℕ) → of_entries i 0 m k ≡ 0
  of_none i m zero = refl
  of_none i m (suc k) = omega (arith, of_none i (m + 1) k)

  of_entries_lem : (n i m k : ℕ) → i + n ≤ count → of_entries i n m k ≤ most i n
  of_entries_lem zero i m k h = omega (arith, of_none i m k)
  of_entries_lem (suc n) i m k h =
      omega (arith, first_apart i n m k, of_entry_lem i m k, short i (omega arith), of_entries_lem n (i + 1) m k (omega arith))

  minutes_are : (m k : ℕ) → length (minutes_from rows count day m k) ≡ of_entries 0 count m k
  minutes_are m zero = refl
  minutes_are m (suc k) = rw length-append (omega (arith, minutes_are (m + 1) k))

  minutes_most : (m k : ℕ) → length (minutes_from rows count day m k) ≤ most 0 count
  minutes_most m k = omega (arith, minutes_are m k, of_entries_lem count 0 m k (omega arith))

-- A site's lines.
module _ (x : Site) (ok : spoilt_site x ≡ false) where
  place_case : (day j : ℕ) (b : Bool) → ltb j 9 ≡ b → j < x.entries → length (line_of day (entry_of x.plan j) (j + 1)) ≤ line_most j
  place_case day j true e h =
      let l = ltb-true j 9 e in
      rw e ((line_most_lem day (j + 1) (entry_of x.plan j) (entry_rate_most x ok j h) (entry_table_most x ok j h)).0 (decimal_most 0 (j + 1) (omega arith)))
  place_case day j false e h =
      let n = entries_most x ok in
      rw e ((line_most_lem day (j + 1) (entry_of x.plan j) (entry_rate_most x ok j h) (entry_table_most x ok j h)).1 (decimal_most 1 (j + 1) (omega arith)))

  days_most : (day n : ℕ) → length (days_from x.plan x.entries day n) ≤ n * 407
  days_most day zero = omega arith
  days_most day (suc n) =
      let m = minutes_most x.plan x.entries day (λ j h. place_case day j _ refl h) 0 1440 in
      rw length-append (omega (arith, most_all x.entries (entries_most x ok), days_most (day + 1) n))

  timetable_most : length (timetable_of x) ≤ longest_text
  unfolding timetable_of
  timetable_most = rw length-append (omega (arith, days_most 0 8))

-- What is printed of what reading gave.
pub printed_most : (r : Result Site Misread) → IfErr r (λ m. m.place < 2 ^ 64) → IfOk r (λ x. spoilt_site x ≡ false) → length (printed_of r) ≤ longest_text
unfolding printed_of
printed_most (Ok x) p ok = timetable_most x ok
printed_most (Err m) p ok = omega (arith, refusal_most (number_of m.refusal) m.place (omega (arith, number_most m.refusal)) (omega arith))
