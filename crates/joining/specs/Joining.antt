-- Document 02, 'Joining two plan lists': "Joining puts the first list's entries in filed order before the second's. An entry of the first is
-- dropped if one entry of the second has the same start and all its days."
use Rattle.std.specs.Prelude.{ℕ, zero, suc, ◌+◌, ◌-◌, Bool, false, cond, not, ◌&&◌, ◌||◌, List, [], ◌∷◌, ◌++◌, ltb, eqb, length, replicate, Result, Ok, Err}
use Rattle.loops.specs.Any.{any_from}
use Rattle.ranges.specs.declared.Section.TheVariants.{Entries}
use Rattle.ranges.specs.Sections.{greatest_of, most_of}
use Rattle.site.specs.Record.{spoilt_of}
use Rattle.plan.specs.declared.Entry.{Entry}
use Rattle.plan.specs.Entry.{entry_of, day_types, on_day}
use Rattle.joining.specs.declared.PlanList.{PlanList}
use Rattle.refusals.specs.declared.Refusal.{Refusal}
use Rattle.refusals.specs.declared.Refusal.TheVariants.{SpoiltSite, TooManyEntries}

-- The next n entries of a plan's rows from entry i on, in filed order.
abbrev pub entries_from : List ℕ → ℕ → ℕ → List Entry
entries_from rows i zero = []
entries_from rows i (suc n) = entry_of rows i ∷ entries_from rows (i + 1) n

-- A list's entries.
abbrev pub entries_of : PlanList → List Entry
entries_of l = entries_from l.rows 0 l.count

-- An entry is of this day type and the other is not.
unfoldable pub lacks : Entry → Entry → ℕ → Bool
lacks other e day = on_day e.days day && not (on_day other.days day)

-- The other "has the same start and all its days": it lacks none of them.
unfoldable pub covers : Entry → Entry → Bool
covers other e = eqb other.start e.start && not (any_from (lacks other e) 0 day_types)

-- "One entry of the second" covers this one.
abbrev pub is_covered : List Entry → Entry → Bool
is_covered [] e = false
is_covered (other ∷ others) e = covers other e || is_covered others e

-- The place from 1 of the last of the first n entries that covers this one, which takes its place; 0 for none.
abbrev pub covering_of : List ℕ → Entry → ℕ → ℕ
covering_of rows e zero = 0
covering_of rows e (suc n) = cond (covers (entry_of rows n) e) (suc n) (covering_of rows e n)

-- The entries that are not dropped, in their order.
abbrev pub kept : List Entry → List Entry → List Entry
kept [] second = []
kept (e ∷ es) second = cond (is_covered second e) (kept es second) (e ∷ kept es second)

-- "The first list's entries in filed order before the second's."
abbrev pub joined_entries : List Entry → List Entry → List Entry
joined_entries first second = kept first second ++ second

-- The five numbers of each entry.
abbrev pub numbers_of : List Entry → List ℕ
numbers_of [] = []
numbers_of (e ∷ es) = e.days ∷ e.start ∷ e.mode ∷ e.rate ∷ e.table ∷ numbers_of es

-- The list of these entries: "rows beyond a count are 0".
abbrev pub list_of : List Entry → PlanList
list_of es = record { rows = numbers_of es ++ replicate (most_of Entries - length (numbers_of es)) 0; count = length es }

-- "No file could give" the list.
abbrev pub spoilt_list : PlanList → Bool
spoilt_list l = spoilt_of Entries l.count l.rows

-- "14 if no file could give one of the lists, 17. 17: more than 16 entries would remain."
unfoldable pub joined_of : PlanList → PlanList → Result PlanList Refusal
joined_of first second =
    let es : List Entry = joined_entries (entries_of first) (entries_of second) in
    cond (spoilt_list first || spoilt_list second) (Err SpoiltSite)
    (cond (ltb (greatest_of Entries) (length es)) (Err TooManyEntries)
    (Ok (list_of es)))

-- The list given. "Refused, .. an empty one is given."
abbrev pub list_given : Result PlanList Refusal → PlanList
list_given (Ok list) = list
list_given (Err refusal) = list_of []
