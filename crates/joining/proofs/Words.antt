-- The joined list is what the words say: the places of those kept are where they come from.
use Prim.Native.Nat.{ℕ, zero, suc, ◌+◌, ◌-◌, ◌<◌}
use mathlib.Core.Path.{◌≡◌, refl, sym, ap, ◌∙◌}
use mathlib.Core.List.{List, []}
use native.Mathlib.Omega.{arith}
use lib.ListN.{length, length-append, get_or, get_or-append}
use lib.Seq.{get_or-append-add}
use Rattle.plan.specs.declared.Entry.{Entry}
use Rattle.plan.specs.Entry.{entry_of}
use Rattle.joining.specs.declared.PlanList.{PlanList}
use Rattle.joining.specs.Joining.{entries_from, entries_of, is_covered, kept, joined_entries, list_of}
use Rattle.joining.specs.InWords.{Remain, Joins}
use Rattle.joining.proofs.FillingLaws.{entries_length}
use Rattle.joining.proofs.EntryRows.{entries_of_list, zeros_behind}
use Rattle.joining.proofs.CoversLaws.{kept_not_dropped, not_dropped_kept}
use Rattle.joining.proofs.Places.{places_from, places_length, comes_from, rising, each_free}
use Rattle.joining.proofs.SamePlaces.{same_place, as_many}

abbrev blank : Entry
blank = entry_of [] 0

entry_in : (rows : List ℕ) (n i j : ℕ) → j < n → get_or (entries_from rows i n) j blank ≡ entry_of rows (i + j)
entry_in rows zero i j h = absurd (omega arith)
entry_in rows (suc n) i zero h = let z : i + 0 ≡ i = omega arith in rw z refl
entry_in rows (suc n) i (suc j) h = let z : i + suc j ≡ i + 1 + j = omega arith in rw z (entry_in rows n (i + 1) j (omega arith))

-- Entry j of a list.
entry_of_lem : (l : PlanList) (j : ℕ) → j < l.count → entry_of l.rows j ≡ get_or (entries_of l) j blank
entry_of_lem l j h = let z : 0 + j ≡ j = omega arith in sym (rw z at (entry_in l.rows l.count 0 j h))

module _ (first second : PlanList) where
  abbrev es : List Entry
  es = entries_of first

  abbrev others : List Entry
  others = entries_of second

  abbrev places : List ℕ
  places = places_from es others 0

  abbrev list : PlanList
  list = list_of (joined_entries es others)

  as_many_kept : length places ≡ length (kept es others)
  as_many_kept = places_length es others 0

  counted : length (joined_entries es others) ≡ length places + second.count
  counted =
      let n = entries_length second.rows 0 second.count in
      let m = length-append (kept es others) others in
      let a = as_many_kept in omega arith

  in_list : (j : ℕ) → j < length (joined_entries es others) → entry_of list.rows j ≡ get_or (joined_entries es others) j blank
  in_list j h = entry_of_lem list j h ∙ ap (λ (x : List Entry). get_or x j blank) (entries_of_list (joined_entries es others))

  first_entry : (i : ℕ) → i < first.count → get_or es i blank ≡ entry_of first.rows i
  first_entry i h = sym (entry_of_lem first i h)

  module _ (k : ℕ) (h : k < length places) where
    from_place : get_or places k 0 < first.count
    from_place = omega (arith, (comes_from others blank es 0 k h).high, entries_length first.rows 0 first.count)

    its_entry : get_or (kept es others) k blank ≡ entry_of first.rows (get_or places k 0)
    its_entry =
        let z : get_or places k 0 - 0 ≡ get_or places k 0 = omega arith in
        (comes_from others blank es 0 k h).same ∙ ap (λ (x : ℕ). get_or es x blank) z ∙ first_entry (get_or places k 0) from_place

  pub remain : Remain first second (length places) (λ k. get_or places k 0)
  remain = record {
    of_first = from_place;
    none_dropped = λ k h. kept_not_dropped first second (get_or places k 0) (ap (is_covered others) (sym (its_entry k h)) ∙ (comes_from others blank es 0 k h).free);
    each = λ i h n.
        let n' = entries_length first.rows 0 first.count in
        let w = each_free others blank es 0 i (omega arith) (ap (is_covered others) (first_entry i h) ∙ not_dropped_kept first second i n) in
        let z : 0 + i ≡ i = omega arith in
        (w.0, (w.1.0, w.1.1 ∙ z));
    in_order = λ k m l h. rising others blank es 0 k m l h;
  }

  -- However they are told, as many are kept.
  module _ {many : ℕ} {from : ℕ → ℕ} (r : Remain first second many from) where
    told : many ≡ length places
    told = as_many r remain

    pub many_kept : many ≡ length (kept es others)
    many_kept = told ∙ as_many_kept

    pub joins_in_words : Joins first second many from list
    joins_in_words = record {
      of_first = λ k h.
          let g : k < length places = omega (arith, told) in
          in_list k (omega (arith, counted))
          ∙ get_or-append (kept es others) others blank k (omega (arith, as_many_kept))
          ∙ its_entry k g
          ∙ ap (entry_of first.rows) (same_place r remain k h).1;
      then_second = λ j h.
          ap (λ (x : ℕ). entry_of list.rows (x + j)) told
          ∙ in_list (length places + j) (omega (arith, counted))
          ∙ ap (λ (x : ℕ). get_or (joined_entries es others) (x + j) blank) as_many_kept
          ∙ get_or-append-add (kept es others) others j blank
          ∙ sym (entry_of_lem second j h);
      nothing_else = counted ∙ ap (λ (x : ℕ). x + second.count) (sym told);
      zeros_beyond = zeros_behind (joined_entries es others);
    }

  -- So many are kept.
  pub kept_remain : (r : ℕ) → r ≡ length (kept es others) → (from : ℕ → ℕ) × Remain first second r from
  kept_remain r e = ((λ k. get_or places k 0), rw (e ∙ sym as_many_kept) remain)
