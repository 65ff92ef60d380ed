-- An entry's line, from what the code finds; how long the texts are at most.
use Prim.Native.Nat.{ℕ, ◌+◌, ◌-◌, ◌≤◌, ◌<◌}
use mathlib.Core.Path.{◌≡◌, ap, ◌∙◌}
use mathlib.Core.List.{List, []}
use native.Mathlib.Omega.{arith}
use borrow.Author.Tests.{eq-eqb, ne_eqb, eqb-false}
use lib.Dec.{eqb}
use lib.ListN.{length, length-append}
use Rattle.loops.proofs.Cases.{by_test}
use Rattle.text.proofs.DecimalLaws.{decimal_most}
use Rattle.refusals.specs.Numbers.{number_of}
use Rattle.refusals.specs.declared.Refusal.TheVariants.{TooManyEntries}
use Rattle.phrases.specs.Phrases.{refused_line}
use Rattle.phrases.specs.Wrong.{trade_word, opening_text, range_text, allowed_text}
use Rattle.text.proofs.JoinedLaws.{joined_most}
use Rattle.site.specs.declared.Site.{Site}
use Rattle.site.proofs.RowLaws.{entries_most, entry_rate_most, entry_table_most}
use Rattle.plan.specs.declared.Entry.{Entry}
use Rattle.plan.specs.Entry.{entry_of}
use Rattle.joining.specs.declared.PlanList.{PlanList}
use Rattle.joining.specs.Joining.{entries_of, covering_of, kept}
use Rattle.joining.proofs.CoversLaws.{covering_most}
use Rattle.joining.proofs.FillingLaws.{entries_length, kept_length}
use Rattle.entry_text.proofs.Names.{entry_most}
use Rattle.join_plans.specs.JoinedSite.{plan_of}
use Rattle.join_plans.specs.Report.{filed_text, dropped_line, line_for, report_of, of_text, shares_text, too_many_text, remain_text, ShortNames}

module _ (name : List ℕ) (first : PlanList) (other : List ℕ) (second : PlanList) (i : ℕ)
    (e : Entry) (entry : e ≡ entry_of first.rows i) (place : ℕ) (covering : place ≡ covering_of second.rows e second.count) where
  found : place ≡ covering_of second.rows (entry_of first.rows i) second.count
  found = covering ∙ ap (λ (x : Entry). covering_of second.rows x second.count) entry

  pub no_line : place ≡ 0 → [] ≡ line_for name first other second i
  unfolding line_for
  no_line z = rw (← found, eq-eqb place 0 z)

  pub one_line : (place ≡ 0 → ⊥) → (by : Entry) → by ≡ entry_of second.rows (place - 1) → dropped_line name e (i + 1) other by place ≡ line_for name first other second i
  unfolding line_for
  one_line n by b = rw (← found, ne_eqb place 0 n, ← entry, ← b)

-- How long a report is at most.
filed_most : (e : Entry) (name : List ℕ) (place : ℕ) → e.rate ≤ 1800 → e.table ≤ 4 → length name ≤ 4096 → place ≤ 16 → length (filed_text e name place) ≤ 4159
unfolding filed_text
filed_most e name place r t n p = simp length-append (omega (arith, entry_most e r t, decimal_most 1 place (omega arith)))

dropped_most : (name : List ℕ) (e : Entry) (place : ℕ) (other : List ℕ) (by : Entry) (at : ℕ)
    → length (filed_text e name place) ≤ 4159 → length (filed_text by other at) ≤ 4159 → length (dropped_line name e place other by at) ≤ 8341
unfolding dropped_line
dropped_most name e place other by at h g = simp length-append (omega arith)

module _ (name : List ℕ) (x : Site) (other : List ℕ) (works : Site) (s : ShortNames name x other works) where
  line_most_lem : (i : ℕ) → i < x.entries → length (line_for name (plan_of x) other (plan_of works) i) ≤ 8341
  unfolding line_for
  line_most_lem i h =
      let e = entry_of x.plan i in
      let place = covering_of works.plan e works.entries in
      let there : place ≤ works.entries = covering_most works.plan e works.entries in
      let m = entries_most x s.site in
      let n = entries_most works s.works_site in
      by_test (eqb place 0)
      (λ t. rw t (omega arith))
      (λ t. let z = eqb-false place 0 t in
      let k : place - 1 < works.entries = omega arith in
      rw t
      (dropped_most name e (i + 1) other (entry_of works.plan (place - 1)) place
      (filed_most e name (i + 1) (entry_rate_most x s.site i h) (entry_table_most x s.site i h) s.name_most (omega arith))
      (filed_most (entry_of works.plan (place - 1)) other place (entry_rate_most works s.works_site (place - 1) k) (entry_table_most works s.works_site (place - 1) k) s.other_most (omega arith))))

  pub report_most : length (report_of name (plan_of x) other (plan_of works)) ≤ 133456
  report_most =
      let m = entries_most x s.site in
      omega (arith, joined_most (line_for name (plan_of x) other (plan_of works)) 8341 x.entries 0 (λ j l h. line_most_lem j (omega arith)))

  pub remain_most : length (remain_text TooManyEntries name (plan_of x) other (plan_of works)) ≤ 8268
  unfolding number_of too_many_text shares_text of_text refused_line opening_text trade_word allowed_text range_text
  remain_most =
      let many = length (kept (entries_of (plan_of x)) (entries_of (plan_of works))) in
      let m : many ≤ 16 =
      omega (arith, entries_most x s.site, kept_length (entries_of (plan_of x)) (entries_of (plan_of works)), entries_length x.plan 0 x.entries) in
      let n = entries_most works s.works_site in
      let a = decimal_most 1 many (omega arith) in
      let b = decimal_most 1 works.entries (omega arith) in
      let c = decimal_most 1 (many + works.entries) (omega arith) in
      let d = decimal_most 1 17 (omega arith) in
      let e = decimal_most 0 0 (omega arith) in
      let f = decimal_most 1 16 (omega arith) in
      simp length-append (omega (arith, s.name_most, s.other_most))
