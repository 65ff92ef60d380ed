-- A turn that goes round among n, numbered from 1, and a search that begins after the one that had it last.
use Rattle.std.specs.Prelude.{ℕ, zero, suc, ◌+◌, ◌-◌, Bool, cond, ltb}

-- The one after k, of n.
unfoldable pub next_of : ℕ → ℕ → ℕ
next_of n k = cond (ltb k n) (k + 1) 1

-- The first that a test holds of, among so many after k, of n; 0 for none.
abbrev pub first_after : (ℕ → Bool) → ℕ → ℕ → ℕ → ℕ
first_after p n k zero = 0
first_after p n k (suc more) = cond (p (next_of n k)) (next_of n k) (first_after p n (next_of n k) more)

-- How many turns i is behind k, both of the n: the one after k is 1 turn behind, and k itself n.
unfoldable pub turns : ℕ → ℕ → ℕ → ℕ
turns n k i = cond (ltb k i) (i - k) (i + n - k)
