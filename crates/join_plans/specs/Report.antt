-- What the program says on standard error: a line for each entry that is dropped, or how many would remain.
use Rattle.std.specs.Prelude.{ℕ, ◌+◌, ◌-◌, ◌≤◌, ◌≡◌, false, cond, List, [], ◌++◌, eqb, length}
use Rattle.text.specs.Ascii.{ascii}
use Rattle.text.specs.Decimal.{decimal}
use Rattle.text.specs.Joined.{joined}
use Rattle.refusals.specs.declared.Refusal.{Refusal}
use Rattle.refusals.specs.Numbers.{number_of}
use Rattle.phrases.specs.Phrases.{refused_line}
use Rattle.phrases.specs.Wrong.{opening_text, allowed_text}
use Rattle.ranges.specs.declared.Section.TheVariants.{Entries}
use Rattle.ranges.specs.Sections.{greatest_of}
use Rattle.site.specs.declared.Site.{Site}
use Rattle.site.specs.Record.{spoilt_site}
use Rattle.plan.specs.declared.Entry.{Entry}
use Rattle.plan.specs.Entry.{entry_of}
use Rattle.entry_text.specs.EntryText.{entry_text}
use Rattle.joining.specs.declared.PlanList.{PlanList}
use Rattle.joining.specs.Joining.{entries_of, covering_of, kept}

-- An entry, its file and its place there: `Mon 05:30 fixed 600 0 (site.bin, entry 1)`.
unfoldable pub filed_text : Entry → List ℕ → ℕ → List ℕ
filed_text e name place = entry_text e ++ (ascii " (" ++ (name ++ (ascii ", entry " ++ (decimal place ++ ascii ")"))))

-- The line of an entry that is dropped: the entry of the first file, and the one of the second that covers it.
unfoldable pub dropped_line : List ℕ → Entry → ℕ → List ℕ → Entry → ℕ → List ℕ
dropped_line name e place other by at =
    ascii "dropped: " ++ (filed_text e name place ++ (ascii ", covered by " ++ (filed_text by other at ++ ascii "\n")))

-- Of entry i of the first list: its line, if an entry of the second covers it. The last such one is named: it takes the place.
unfoldable pub line_for : List ℕ → PlanList → List ℕ → PlanList → ℕ → List ℕ
line_for name first other second i =
    let e : Entry = entry_of first.rows i in
    let place : ℕ = covering_of second.rows e second.count in
    cond (eqb place 0) [] (dropped_line name e (i + 1) other (entry_of second.rows (place - 1)) place)

-- Each in filed order.
abbrev pub report_of : List ℕ → PlanList → List ℕ → PlanList → List ℕ
report_of name first other second = joined (line_for name first other second) 0 first.count

-- `3 of site.bin`.
unfoldable pub of_text : ℕ → List ℕ → List ℕ
of_text many name = decimal many ++ (ascii " of " ++ name)

-- Where they are from: ` (2 of site.bin, 15 of works.bin)`.
unfoldable pub shares_text : ℕ → List ℕ → ℕ → List ℕ → List ℕ
shares_text first name second other = ascii " (" ++ (of_text first name ++ (ascii ", " ++ (of_text second other ++ ascii ")\n")))

-- The refusal, and in words: `too many entries: 17 would remain, allowed 0-16 (2 of site.bin, 15 of works.bin)`.
unfoldable pub too_many_text : Refusal → ℕ → List ℕ → ℕ → List ℕ → List ℕ
too_many_text refusal first name second other =
    refused_line (number_of refusal)
    ++ (opening_text (number_of refusal) ++ (decimal (first + second) ++ (ascii " would remain" ++ (allowed_text 0 (greatest_of Entries) ++ shares_text first name second other))))

abbrev pub remain_text : Refusal → List ℕ → PlanList → List ℕ → PlanList → List ℕ
remain_text refusal name first other second = too_many_text refusal (length (kept (entries_of first) (entries_of second))) name second.count other

-- What the lengths of these texts rest on: names of 4096 bytes at most, and two sites that a file could give.
pub record ShortNames (name : List ℕ) (x : Site) (other : List ℕ) (works : Site) : Type 0 where
  pub name_most : length name ≤ 4096
  pub other_most : length other ≤ 4096
  pub site : spoilt_site x ≡ false
  pub works_site : spoilt_site works ≡ false
