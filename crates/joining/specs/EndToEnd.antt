-- Document 02, 'Joining two plan lists': "At every clock the entry in force, apart from its place in the list, equals that of the two lists
-- simply laid end to end."
use Rattle.std.specs.Prelude.{ℕ, zero, suc, ◌+◌, ◌≡◌, List, ◌++◌, take, IsOk}
use Rattle.std.proofs.Math.Option.{Option, none, some}
use Rattle.ranges.specs.declared.Section.TheVariants.{Entries}
use Rattle.ranges.specs.Sections.{size_of}
use Rattle.calendar.specs.declared.day.Date.{Date}
use Rattle.plan.specs.declared.Entry.{Entry}
use Rattle.plan.specs.Entry.{entry_of}
use Rattle.plan.specs.InForce.{in_force_of}
use Rattle.plan.specs.PastMidnight.{in_force_now}
use Rattle.joining.specs.declared.PlanList.{PlanList}
use Rattle.joining.specs.Joining.{joined_of}

-- The rows that the count counts.
abbrev pub rows_of : PlanList → List ℕ
rows_of l = take (size_of Entries l.count) l.rows

-- "The two lists simply laid end to end": the counted rows of the first, then those of the second.
abbrev pub end_to_end : PlanList → PlanList → List ℕ
end_to_end first second = rows_of first ++ rows_of second

abbrev pub both_counts : PlanList → PlanList → ℕ
both_counts first second = first.count + second.count

-- The entry at a place from 1, "apart from its place"; none at 0.
abbrev pub entry_at : List ℕ → ℕ → Option Entry
entry_at rows zero = none
entry_at rows (suc k) = some (entry_of rows k)

-- The entry in force of a plan of so many entries, on a date at a minute, at a site with these holidays.
abbrev pub in_force_at : List ℕ → ℕ → List ℕ → ℕ → Date → ℕ → Option Entry
in_force_at rows count dates holidays today minute = entry_at rows (in_force_now (in_force_of rows count) dates holidays today minute)

-- No check refuses the pair. The claim below does not hold of every refused one, which gives an empty list (`Worked`).
abbrev pub IsAccepted : PlanList → PlanList → Type 0
IsAccepted first second = IsOk (joined_of first second)

-- "At every clock": every date and minute, whatever the holidays.
abbrev pub SameInForce : PlanList → PlanList → PlanList → Type 0
SameInForce first second list =
    (dates : List ℕ) (holidays : ℕ) (today : Date) (minute : ℕ)
    → in_force_at list.rows list.count dates holidays today minute ≡ in_force_at (end_to_end first second) (both_counts first second) dates holidays today minute
