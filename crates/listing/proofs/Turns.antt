-- The listing's three loops, a turn at a time: what is left to put is one part and what is left then.
use Prim.Native.Nat.{ℕ, zero, suc, ◌+◌, ◌-◌, ◌≤◌, ◌<◌}
use mathlib.Core.Path.{◌≡◌, refl, ap, ◌∙◌}
use mathlib.Core.Bool.{Bool, true, false}
use mathlib.Core.List.{List, [], ◌++◌}
use native.Mathlib.Omega.{arith}
use borrow.Author.Tests.{ne_eqb}
use Rattle.plan.specs.declared.Entry.{Entry}
use Rattle.plan.specs.Entry.{entry_of, on_day}
use Rattle.listing.proofs.NextStart.{NextStart}
use Rattle.listing.specs.Timetable.{line_if, starting_at, minutes_from, days_from}

pub entries_turn : (rows : List ℕ) (day minute count i : ℕ) → i < count
    → starting_at rows day minute i (count - i)
    ≡ line_if day minute (entry_of rows i) (i + 1) ++ starting_at rows day minute (i + 1) (count - (i + 1))
entries_turn rows day minute count i h = let e : count - i ≡ suc (count - (i + 1)) = omega arith in ap (starting_at rows day minute i) e

pub minutes_turn : (rows : List ℕ) (count day minute : ℕ) → minute < 1440
    → minutes_from rows count day minute (1440 - minute) ≡ starting_at rows day minute 0 count ++ minutes_from rows count day (minute + 1) (1440 - (minute + 1))
minutes_turn rows count day minute h = let e : 1440 - minute ≡ suc (1440 - (minute + 1)) = omega arith in ap (minutes_from rows count day minute) e

pub minutes_end : (rows : List ℕ) (count day minute : ℕ) → 1440 ≤ minute → minutes_from rows count day minute (1440 - minute) ≡ []
minutes_end rows count day minute h = let e : 1440 - minute ≡ 0 = omega arith in rw e

pub days_turn : (rows : List ℕ) (count day : ℕ) → day < 8
    → days_from rows count day (8 - day) ≡ minutes_from rows count day 0 1440 ++ days_from rows count (day + 1) (8 - (day + 1))
days_turn rows count day h = let e : 8 - day ≡ suc (8 - (day + 1)) = omega arith in ap (days_from rows count day) e

pub days_end : (rows : List ℕ) (count day : ℕ) → 8 ≤ day → days_from rows count day (8 - day) ≡ []
days_end rows count day h = let e : 8 - day ≡ 0 = omega arith in rw e

-- A minute at which no entry starts has no line.
not_then : (day minute : ℕ) (e : Entry) (filed : ℕ) → (e.start ≡ minute → ⊥) → (b : Bool) → on_day e.days day ≡ b → line_if day minute e filed ≡ []
unfolding line_if
not_then day minute e filed h true b = rw (b, ne_eqb _ _ h)
not_then day minute e filed h false b = rw b

no_lines : (rows : List ℕ) (day minute i n : ℕ) → ((j : ℕ) → j < i + n → (entry_of rows j).start ≡ minute → ⊥) → starting_at rows day minute i n ≡ []
no_lines rows day minute i zero h = refl
no_lines rows day minute i (suc n) h =
    rw (not_then day minute (entry_of rows i) (i + 1) (h i (omega arith)) _ refl) (no_lines rows day minute (i + 1) n (λ j l. h j (omega arith)))

-- The minutes up to the next start have no lines.
skipped : (rows : List ℕ) (count day from r : ℕ) → NextStart rows count from r → (k m : ℕ) → from ≤ m → m + k ≡ r
    → minutes_from rows count day m (1440 - m) ≡ minutes_from rows count day r (1440 - r)
skipped rows count day from r s zero m h e = let z : m ≡ r = omega arith in rw z
skipped rows count day from r s (suc k) m h e =
    minutes_turn rows count day m (omega (arith, s.within))
    ∙ rw (no_lines rows day m 0 count (λ j l q. omega (arith, s.none_before j (omega arith) (omega arith))))
    (skipped rows count day from r s k (m + 1) (omega arith) (omega arith))

pub skip : (rows : List ℕ) (count day from r : ℕ) → NextStart rows count from r
    → minutes_from rows count day from (1440 - from) ≡ minutes_from rows count day r (1440 - r)
skip rows count day from r s = skipped rows count day from r s (r - from) from (omega arith) (omega (arith, s.after))
