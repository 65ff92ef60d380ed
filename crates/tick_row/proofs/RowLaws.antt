-- No row of a site is longer than the longest.
use Prim.Native.Nat.{ℕ, ◌≤◌}
use native.Mathlib.Omega.{arith}
use Rattle.tick_row.specs.Row.{mainline_at, calls_at, commands_at, row_size, longest_row}

pub longest_row_lem : (n m : ℕ) → n ≤ 4 → m ≤ 6 → row_size n m ≤ longest_row
unfolding row_size commands_at calls_at mainline_at
longest_row_lem n m a b = omega arith
