-- The search for the entry in force, a turn at a time.
use Prim.Native.Nat.{ℕ, suc, ◌+◌, ◌-◌, ◌<◌, ◌≤◌}
use mathlib.Core.Path.{◌≡◌}
use mathlib.Core.Bool.{true, false}
use mathlib.Core.List.{List}
use native.Mathlib.Omega.{arith}
use Rattle.plan.specs.Entry.{entry_of}
use Rattle.plan.specs.InForce.{takes_over, in_force_from}

module _ (rows : List ℕ) (day minute best start i n : ℕ) (h : i < n) where
  one_more : n - i ≡ suc (n - (i + 1))
  one_more = omega arith

  pub takes : takes_over (entry_of rows i) day minute best start ≡ true
      → in_force_from rows day minute best start i (n - i) ≡ in_force_from rows day minute (i + 1) (entry_of rows i).start (i + 1) (n - (i + 1))
  takes e = rw (one_more, e)

  pub skips : takes_over (entry_of rows i) day minute best start ≡ false
      → in_force_from rows day minute best start i (n - i) ≡ in_force_from rows day minute best start (i + 1) (n - (i + 1))
  skips e = rw (one_more, e)

pub ends : (rows : List ℕ) (day minute best start i n : ℕ) → n ≤ i → in_force_from rows day minute best start i (n - i) ≡ best
ends rows day minute best start i n h = let e : n - i ≡ 0 = omega arith in rw e
