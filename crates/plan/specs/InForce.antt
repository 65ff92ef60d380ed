-- Document 01, 'Day and entry': "The entry in force is, among today's day type with start minute at or before now, the one of the latest
-- start, and among equal starts the one filed last."
use Rattle.std.specs.Prelude.{ℕ, zero, suc, ◌+◌, ◌≤◌, ◌<◌, ◌≡◌, Bool, true, false, cond, ◌&&◌, ◌||◌, List, leb, eqb}
use Rattle.plan.specs.declared.Entry.{Entry}
use Rattle.plan.specs.Entry.{entry_of, on_day}

-- An entry applies if it is of this day type and has started by this minute.
unfoldable pub applies : Entry → ℕ → ℕ → Bool
applies e day minute = on_day e.days day && leb e.start minute

-- The next entry takes over if it applies, and starts no earlier than the one in force so far; best is that one's place from 1, 0 for none,
-- and start its start.
unfoldable pub takes_over : Entry → ℕ → ℕ → ℕ → ℕ → Bool
takes_over e day minute best start = applies e day minute && (eqb best 0 || leb start e.start)

-- The next n entries from entry i on, tried in the order they were filed.
abbrev pub in_force_from : List ℕ → ℕ → ℕ → ℕ → ℕ → ℕ → ℕ → ℕ
in_force_from rows day minute best start i zero = best
in_force_from rows day minute best start i (suc n) =
    cond (takes_over (entry_of rows i) day minute best start)
    (in_force_from rows day minute (i + 1) (entry_of rows i).start (i + 1) n)
    (in_force_from rows day minute best start (i + 1) n)

-- The place from 1 of the entry in force, of a plan of count entries; 0 for none.
unfoldable pub in_force_of : List ℕ → ℕ → ℕ → ℕ → ℕ
in_force_of rows count day minute = in_force_from rows day minute 0 0 0 count

-- The same in the paper's own words, which `in_force` promises too: of the first count entries, the one at this place from 1 is in force;
-- at 0, none applies.
pub record InForce (rows : List ℕ) (count day minute place : ℕ) : Type 0 where
  pub none : place ≡ 0 → (j : ℕ) → j < count → applies (entry_of rows j) day minute ≡ false
  pub one_of_them : (k : ℕ) → place ≡ k + 1 → (k < count) × (applies (entry_of rows k) day minute ≡ true)
  pub latest_start : (k j : ℕ) → place ≡ k + 1 → j < count → applies (entry_of rows j) day minute ≡ true → (entry_of rows j).start ≤ (entry_of rows k).start
  pub filed_last : (k j : ℕ) → place ≡ k + 1 → j < count → applies (entry_of rows j) day minute ≡ true → (entry_of rows j).start ≡ (entry_of rows k).start → j ≤ k
