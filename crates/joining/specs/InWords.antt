-- Document 02's sentences on joining, in its own words beside the definition: `join` promises them too. No other answer fits them (law
-- `no_other_answer`).
use Rattle.std.specs.Prelude.{ℕ, ◌+◌, ◌≤◌, ◌<◌, ◌≡◌, true, false, List, ◌⊎◌, get_or, Result, Ok, Err}
use Rattle.ranges.specs.declared.Section.TheVariants.{Entries}
use Rattle.ranges.specs.Sections.{greatest_of, size_of}
use Rattle.plan.specs.declared.Entry.{Entry}
use Rattle.plan.specs.Entry.{entry_of, on_day}
use Rattle.joining.specs.declared.PlanList.{PlanList}
use Rattle.refusals.specs.declared.Refusal.{Refusal}
use Rattle.refusals.specs.declared.Refusal.TheVariants.{SpoiltSite, TooManyEntries}
use Rattle.joining.specs.Joining.{spoilt_list, list_given}

-- The other "has the same start and all its days".
pub record Covers (other e : Entry) : Type 0 where
  pub same_start : other.start ≡ e.start
  pub all_days : (day : ℕ) → on_day e.days day ≡ true → on_day other.days day ≡ true

-- Entry i of the first list, counted from 0, "is dropped if one entry of the second" covers it.
abbrev pub Dropped : PlanList → PlanList → ℕ → Type 0
Dropped first second i = (j : ℕ) × ((j < second.count) × Covers (entry_of second.rows j) (entry_of first.rows i))

-- Of the first count entries, the one at this place from 1 is the last that covers an entry; at 0, none does.
pub record LastCovering (rows : List ℕ) (count : ℕ) (e : Entry) (place : ℕ) : Type 0 where
  pub none : place ≡ 0 → (j : ℕ) → j < count → Covers (entry_of rows j) e → ⊥
  pub one_of_them : (k : ℕ) → place ≡ k + 1 → (k < count) × Covers (entry_of rows k) e
  pub last : (k j : ℕ) → place ≡ k + 1 → k < j → j < count → Covers (entry_of rows j) e → ⊥

-- So many entries of the first remain, and these are their places: each entry that is not dropped, no other, "in filed order".
pub record Remain (first second : PlanList) (many : ℕ) (from : ℕ → ℕ) : Type 0 where
  pub of_first : (k : ℕ) → k < many → from k < first.count
  pub none_dropped : (k : ℕ) → k < many → Dropped first second (from k) → ⊥
  pub each : (i : ℕ) → i < first.count → (Dropped first second i → ⊥) → (k : ℕ) × ((k < many) × (from k ≡ i))
  pub in_order : (k m : ℕ) → k < m → m < many → from k < from m

-- The list is the two joined, so many entries of the first remaining:
pub record Joins (first second : PlanList) (many : ℕ) (from : ℕ → ℕ) (list : PlanList) : Type 0 where
  -- the first's entries that remain,
  pub of_first : (k : ℕ) → k < many → entry_of list.rows k ≡ entry_of first.rows (from k)
  -- "before the second's", each of which is there, in filed order,
  pub then_second : (j : ℕ) → j < second.count → entry_of list.rows (many + j) ≡ entry_of second.rows j
  -- and nothing else.
  pub nothing_else : list.count ≡ many + second.count
  pub zeros_beyond : (i : ℕ) → size_of Entries list.count ≤ i → get_or list.rows i 0 ≡ 0

-- A file could give both lists.
pub record BothFiled (first second : PlanList) : Type 0 where
  pub of_first : spoilt_list first ≡ false
  pub of_second : spoilt_list second ≡ false

-- The answer, of whatever entries remain.
pub record Answers (first second : PlanList) (r : Result PlanList Refusal) : Type 0 where
  -- "14 if no file could give one of the lists",
  pub no_file : (spoilt_list first ≡ true) ⊎ (spoilt_list second ≡ true) → r ≡ Err SpoiltSite
  -- then "17: more than 16 entries would remain";
  pub too_many : BothFiled first second → (many : ℕ) (from : ℕ → ℕ) → Remain first second many from → greatest_of Entries < many + second.count → r ≡ Err TooManyEntries
  -- else it is accepted.
  pub joined : BothFiled first second → (many : ℕ) (from : ℕ → ℕ) → Remain first second many from → many + second.count ≤ greatest_of Entries
      → (list : PlanList) × ((r ≡ Ok list) × Joins first second many from list)
  -- "Refused, .. an empty one is given."
  pub empty : (refusal : Refusal) → r ≡ Err refusal → ((list_given r).count ≡ 0) × ((i : ℕ) → get_or (list_given r).rows i 0 ≡ 0)
