-- Past the fourth mode there is no name; how long an entry's text is at most.
use Prim.Native.Nat.{ℕ, ◌≤◌}
use mathlib.Core.Path.{◌≡◌, refl}
use mathlib.Core.List.{[]}
use native.Mathlib.Omega.{arith}
use lib.ListN.{length, length-append, get_or-eq_default}
use Rattle.loops.proofs.Cases.{by_test}
use Rattle.text.proofs.DecimalLaws.{decimal_most}
use Rattle.text.proofs.JoinedLaws.{joined_most}
use Rattle.phrases.proofs.DayNames.{name_most, day_name_most}
use Rattle.plan.specs.declared.Entry.{Entry}
use Rattle.plan.specs.Entry.{on_day, day_types}
use Rattle.entry_text.specs.EntryText.{mode_names, mode_name, timed_text, day_text, entry_text}

pub no_mode : (m : ℕ) → 4 ≤ m → mode_name m ≡ []
unfolding mode_name
no_mode m h = get_or-eq_default mode_names [] {n = m} h

mode_name_most : (mode : ℕ) → length (mode_name mode) ≤ 5
unfolding mode_name
mode_name_most mode = name_most 5 [] mode_names (omega arith) refl mode

pub timed_most : (e : Entry) → e.rate ≤ 1800 → e.table ≤ 4 → length (timed_text e) ≤ 18
unfolding timed_text
timed_most e r t =
    let b = mode_name_most e.mode in
    let c = decimal_most 3 e.rate (omega arith) in
    let d = decimal_most 0 e.table (omega arith) in
    simp length-append (omega arith)

day_most : (days day : ℕ) → length (day_text days day) ≤ 4
unfolding day_text
day_most days day =
    by_test (on_day days day) (λ t. rw t (simp length-append (omega (arith, day_name_most day)))) (λ f. rw f (omega arith))

pub entry_most : (e : Entry) → e.rate ≤ 1800 → e.table ≤ 4 → length (entry_text e) ≤ 50
unfolding entry_text
entry_most e r t =
    rw length-append (omega (arith, joined_most (day_text e.days) 4 day_types 0 (λ day l h. day_most e.days day), timed_most e r t))
