-- The list given is one that a file could give: each of its rows is a row of one of the two lists, and a row's ranges depend on that row.
use Prim.Native.Nat.{ℕ, zero, suc, ◌+◌, ◌*◌, ◌-◌, ◌/◌, ◌%◌, ◌≤◌, ◌<◌}
use mathlib.Core.Path.{◌≡◌, refl, sym, ap, ◌∙◌}
use mathlib.Core.Bool.{Bool, true, false, cond}
use mathlib.Core.List.{List, [], ◌∷◌, ◌++◌, append_assoc, append-nil}
use native.Mathlib.Omega.{arith}
use borrow.Author.Tests.{le-leb, le-ltb}
use lib.Dec.{eqb}
use lib.ListN.{length, length-append, get_or, take, replicate}
use lib.Seq.{take_at, drop_at, get_or-take}
use Rattle.loops.proofs.Cases.{by_test}
use Rattle.numbers.specs.Within.{is_within}
use Rattle.ranges.specs.declared.Section.{Section}
use Rattle.ranges.specs.declared.Section.TheVariants.{Entries}
use Rattle.ranges.specs.Ranges.{entry_range, unused}
use Rattle.ranges.specs.Sections.{range_of, may_be_unused, is_good, first_bad, zeros}
use Rattle.ranges.proofs.RangeLaws.{good_before}
use Rattle.site.specs.Record.{spoilt_of}
use Rattle.site.proofs.SpoiltLaws.{sound}
use Rattle.plan.specs.declared.Entry.{Entry}
use Rattle.plan.specs.Entry.{entry_of}
use Rattle.std.specs.Prelude.{Result}
use Rattle.refusals.specs.declared.Refusal.{Refusal}
use Rattle.joining.specs.declared.PlanList.{PlanList}
use Rattle.joining.specs.Joining.{entries_from, entries_of, numbers_of, list_of, is_covered, kept, joined_entries, spoilt_list, joined_of, list_given}
use Rattle.joining.proofs.FillingLaws.{numbers_length}
use Rattle.joining.proofs.EntryRows.{number_of, entry_there}
use Rattle.joining.proofs.Accepted.{accepted_or_refused}

-- Where all numbers are allowed, none is the first that is not.
none_bad : (k : Section) (v : List ℕ) (i n : ℕ) → ((j : ℕ) → i ≤ j → j < i + n → is_good k v j ≡ true) → first_bad k v i n ≡ i + n
none_bad k v i zero f = omega arith
none_bad k v i (suc n) f =
    rw (f i (omega arith) (omega arith)) (let h = none_bad k v (i + 1) n (λ j l m. f j (omega arith) (omega arith)) in omega arith)

-- Whether an entry's number is allowed, by the entry.
good_at : Entry → ℕ → Bool
good_at e j =
    let x : ℕ = get_or (numbers_of (e ∷ [])) j 0 in cond (eqb x unused) false (is_within (entry_range e.mode j) x)

good_by_entry : (v : List ℕ) (i j : ℕ) → j < 5 → is_good Entries v (i * 5 + j) ≡ good_at (entry_of v i) j
unfolding is_good may_be_unused range_of good_at
good_by_entry v i j h =
    let c : (i * 5 + j) % 5 ≡ j = omega arith in
    let r : i * 5 + j - j + 2 ≡ i * 5 + 2 = omega arith in
    rw (c, number_of v i j h, r)

-- Each entry's numbers are allowed.
AllGood : List Entry → Type 0
AllGood [] = Unit
AllGood (e ∷ es) = ((j : ℕ) → j < 5 → good_at e j ≡ true) × AllGood es

good_append : (es fs : List Entry) → AllGood es → AllGood fs → AllGood (es ++ fs)
unfolding AllGood
good_append [] fs h g = g
good_append (e ∷ es) fs h g = (h.0, good_append es fs h.1 g)

good_kept : (es second : List Entry) → AllGood es → AllGood (kept es second)
unfolding AllGood
good_kept [] second h = h
good_kept (e ∷ es) second h =
    by_test (is_covered second e) (λ d. rw d (good_kept es second h.1)) (λ d. rw d (h.0, good_kept es second h.1))

-- So are those of a list that a file could give,
module _ (l : PlanList) (h : spoilt_list l ≡ false) where
  abbrev v : List ℕ
  v = take (l.count * 5) l.rows

  good_number : (j : ℕ) → j < l.count * 5 → is_good Entries v j ≡ true
  good_number j m = good_before Entries v 0 (length v) j _ refl (omega arith) (omega (arith, (sound Entries l.count l.rows h).in_range))

  same_entry : (i : ℕ) → i < l.count → entry_of v i ≡ entry_of l.rows i
  same_entry i m =
      let at : (j : ℕ) → j < l.count * 5 → get_or v j 0 ≡ get_or l.rows j 0 = λ j k. get_or-take (l.count * 5) l.rows j 0 k in
      rw (at (i * 5) (omega arith), at (i * 5 + 1) (omega arith), at (i * 5 + 2) (omega arith), at (i * 5 + 3) (omega arith), at (i * 5 + 4) (omega arith))

  good_entries : (n i : ℕ) → i + n ≤ l.count → AllGood (entries_from l.rows i n)
  unfolding AllGood
  good_entries zero i m = tt
  good_entries (suc n) i m =
      (λ j k. sym (good_by_entry v i j k ∙ ap (λ (x : Entry). good_at x j) (same_entry i (omega arith))) ∙ good_number (i * 5 + j) (omega arith), good_entries n (i + 1) (omega arith))

-- and those of the list of such entries.
good_there : (es : List Entry) → AllGood es → (pre rest : List ℕ) (k i : ℕ) → length pre ≡ k * 5 → i < length es → (j : ℕ) → j < 5
    → good_at (entry_of (pre ++ (numbers_of es ++ rest)) (k + i)) j ≡ true
unfolding AllGood
good_there [] g pre rest k i e m j n = absurd (omega arith)
good_there (x ∷ es) g pre rest k zero e m j n =
    let z : k + 0 ≡ k = omega arith in
    rw z (ap (λ (y : Entry). good_at y j) (entry_there pre x (numbers_of es ++ rest) k e) ∙ g.0 j n)
good_there (x ∷ es) g pre rest k (suc i) e m j n =
    let row = numbers_of (x ∷ []) in
    let w : length (pre ++ row) ≡ (k + 1) * 5 = length-append pre row ∙ omega arith in
    let same : pre ++ (numbers_of (x ∷ es) ++ rest) ≡ pre ++ row ++ (numbers_of es ++ rest) = sym (append_assoc pre row (numbers_of es ++ rest)) in
    let q : k + suc i ≡ k + 1 + i = omega arith in
    rw (q, same) (good_there es g.1 (pre ++ row) rest (k + 1) i w (omega arith) j n)

zeros_replicate : (n : ℕ) → zeros (replicate n 0) ≡ true
zeros_replicate zero = refl
zeros_replicate (suc n) = zeros_replicate n

good_list : (es : List Entry) → AllGood es → (j : ℕ) → j < length es * 5 → is_good Entries (numbers_of es) j ≡ true
good_list es g j m =
    let i = j / 5 in
    let c = j % 5 in
    let e : j ≡ i * 5 + c = omega arith in
    let z : 0 + i ≡ i = omega arith in
    let there : good_at (entry_of (numbers_of es ++ []) (0 + i)) c ≡ true = good_there es g [] [] 0 i refl (omega arith) c (omega arith) in
    ap (is_good Entries (numbers_of es)) e ∙ good_by_entry (numbers_of es) i c (omega arith) ∙ (rw (z, append-nil (numbers_of es)) at there)

filed_list : (es : List Entry) → length es ≤ 16 → AllGood es → spoilt_list (list_of es) ≡ false
unfolding spoilt_of
filed_list es h g =
    let xs = numbers_of es in
    let tail = replicate {A = ℕ} (80 - length xs) 0 in
    let n = numbers_length es in
    let b : first_bad Entries xs 0 (length xs) ≡ 0 + length xs = none_bad Entries xs 0 (length xs) (λ j l m. good_list es g j (omega arith)) in
    rw (le-leb (length es) 16 h, take_at xs tail (length es * 5) n, drop_at xs tail (length es * 5) n, le-ltb (first_bad Entries xs 0 (length xs)) (length es * 5) (omega arith), zeros_replicate (80 - length xs)) refl

-- The list given, an empty one too.
pub could_be_filed : (first second : PlanList) → spoilt_list (list_given (joined_of first second)) ≡ false
unfolding AllGood
could_be_filed first second =
    accepted_or_refused first second
    (λ a. ap spoilt_given a.given
    ∙ filed_list (joined_entries (entries_of first) (entries_of second)) a.few
    (good_append (kept (entries_of first) (entries_of second)) (entries_of second)
    (good_kept (entries_of first) (entries_of second) (good_entries first a.first_sound first.count 0 (omega arith)))
    (good_entries second a.second_sound second.count 0 (omega arith))))
    (λ refusal e. ap spoilt_given e ∙ filed_list [] (omega arith) tt)
  where
    spoilt_given : Result PlanList Refusal → Bool
    spoilt_given r = spoilt_list (list_given r)
