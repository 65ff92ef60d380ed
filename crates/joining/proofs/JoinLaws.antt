-- `joined_of` from the facts that the code finds.
use Prim.Native.Nat.{ℕ, ◌+◌, ◌≤◌, ◌<◌}
use mathlib.Core.Path.{◌≡◌, ap, ◌∙◌}
use mathlib.Core.Bool.{true, false}
use mathlib.Core.List.{List, ◌++◌}
use native.Mathlib.Omega.{arith}
use borrow.Author.Tests.{leb-true, lt-ltb, le-ltb}
use lib.ListN.{length, length-append}
use Rattle.ranges.specs.declared.Section.TheVariants.{Entries}
use Rattle.site.proofs.SpoiltLaws.{sound}
use Rattle.plan.specs.declared.Entry.{Entry}
use Rattle.joining.specs.declared.PlanList.{PlanList}
use Rattle.std.specs.Prelude.{Ok, Err}
use Rattle.refusals.specs.declared.Refusal.TheVariants.{SpoiltSite, TooManyEntries}
use Rattle.joining.specs.Joining.{entries_of, kept, joined_entries, list_of, spoilt_list, joined_of}
use Rattle.joining.specs.Filling.{with_all}
use Rattle.joining.proofs.FillingLaws.{with_all_lem, entries_length, kept_length}

-- A list that a file could give has 16 entries at most.
pub count_most : (l : PlanList) → spoilt_list l ≡ false → l.count ≤ 16
count_most l h = leb-true l.count 16 (sound Entries l.count l.rows h).allowed

module _ (first second : PlanList) where
  pub spoilt_first : spoilt_list first ≡ true → Err SpoiltSite ≡ joined_of first second
  unfolding joined_of
  spoilt_first h = rw h

  pub spoilt_second : spoilt_list first ≡ false → spoilt_list second ≡ true → Err SpoiltSite ≡ joined_of first second
  unfolding joined_of
  spoilt_second h g = rw (h, g)

  module _ (h : spoilt_list first ≡ false) (g : spoilt_list second ≡ false) where
    abbrev es : List Entry
    es = kept (entries_of first) (entries_of second)

    remaining : length (joined_entries (entries_of first) (entries_of second)) ≡ length es + second.count
    remaining = length-append es (entries_of second) ∙ ap (λ (n : ℕ). length es + n) (entries_length second.rows 0 second.count)

    kept_most : length es ≤ 16
    kept_most = omega (arith, kept_length (entries_of first) (entries_of second), entries_length first.rows 0 first.count, count_most first h)

    pub kept_count : (k : PlanList) → k ≡ list_of es → k.count ≤ 16
    kept_count k e = let c : k.count ≡ length es = ap (λ (x : PlanList). x.count) e in omega (arith, c, kept_most)

    pub too_many : (k : PlanList) → k ≡ list_of es → 16 < k.count + second.count → Err TooManyEntries ≡ joined_of first second
    unfolding joined_of
    too_many k e l =
        let c : k.count ≡ length es = ap (λ (x : PlanList). x.count) e in
        rw (h, g, lt-ltb 16 (length (joined_entries (entries_of first) (entries_of second))) (omega (arith, c, remaining)))

    pub joins_if : length es + second.count ≤ 16 → Ok (list_of (es ++ entries_of second)) ≡ joined_of first second
    unfolding joined_of
    joins_if l = rw (h, g, le-ltb 16 (length (joined_entries (entries_of first) (entries_of second))) (omega (arith, remaining)))

    pub joins : (k : PlanList) → k ≡ list_of es → k.count + second.count ≤ 16
        → (r : PlanList) → r ≡ with_all k (entries_of second)
        → Ok r ≡ joined_of first second
    joins k e l r q =
        let c : k.count ≡ length es = ap (λ (x : PlanList). x.count) e in
        let w : with_all (list_of es) (entries_of second) ≡ list_of (es ++ entries_of second) =
        with_all_lem es (entries_of second) (omega (arith, c, entries_length second.rows 0 second.count)) in
        let a : r ≡ list_of (es ++ entries_of second) = q ∙ ap (λ (x : PlanList). with_all x (entries_of second)) e ∙ w in
        ap Ok a ∙ joins_if (omega (arith, c))
