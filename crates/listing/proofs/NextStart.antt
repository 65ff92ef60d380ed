-- What the next start is: no earlier than the minute it was asked for, and no later than any such start.
use Prim.Native.Nat.{ℕ, zero, suc, ◌≤◌, ◌<◌}
use mathlib.Core.Path.{◌≡◌, refl}
use mathlib.Core.Bool.{Bool, true, false}
use mathlib.Core.List.{List}
use native.Mathlib.Omega.{arith}
use borrow.Author.Count.{below_more}
use borrow.Author.Tests.{leb-true, leb-false}
use lib.Dec.{leb}
use Rattle.plan.specs.Entry.{entry_of}
use Rattle.listing.specs.NextStart.{earlier_of, next_start_of}

pub record NextStart (rows : List ℕ) (count from r : ℕ) : Type 0 where
  pub after : from ≤ r
  pub within : r ≤ 1440
  pub none_before : (j : ℕ) → j < count → from ≤ (entry_of rows j).start → r ≤ (entry_of rows j).start

record Earlier (start from best r : ℕ) : Type 0 where
  after : from ≤ r
  no_later : r ≤ best
  than_start : from ≤ start → r ≤ start

earlier_case : (start from best : ℕ) (a b : Bool) → leb from start ≡ a → leb start best ≡ b → from ≤ best → Earlier start from best (earlier_of start from best)
unfolding earlier_of
earlier_case start from best true true ea eb h = rw (ea, eb) (record { after = leb-true _ _ ea; no_later = leb-true _ _ eb; than_start = λ l. omega arith })
earlier_case start from best true false ea eb h =
    rw (ea, eb) (record { after = h; no_later = omega arith; than_start = λ l. omega (arith, leb-false start best eb) })
earlier_case start from best false b ea eb h =
    rw ea (record { after = h; no_later = omega arith; than_start = λ l. absurd (omega (arith, leb-false from start ea)) })

pub next_start_is : (rows : List ℕ) (from count : ℕ) → from ≤ 1440 → NextStart rows count from (next_start_of rows from count)
next_start_is rows from zero h = record { after = h; within = omega arith; none_before = λ j l. absurd (omega arith) }
next_start_is rows from (suc n) h =
    let s = next_start_is rows from n h in
    let e = earlier_case (entry_of rows n).start from (next_start_of rows from n) _ _ refl refl s.after in
    record {
      after = e.after;
      within = omega (arith, e.no_later, s.within);
      none_before = λ j l. below_more (λ (j : ℕ). from ≤ (entry_of rows j).start → next_start_of rows from (suc n) ≤ (entry_of rows j).start) n (λ j l g. omega (arith, e.no_later, s.none_before j l g)) e.than_start j (omega arith);
    }
