-- A quotient rounded up.
use Rattle.std.specs.Prelude.{ℕ, ◌+◌, ◌-◌, ◌/◌, cond, eqb}

-- a ÷ b, rounded up; by 0, 0.
unfoldable pub rounded_up : ℕ → ℕ → ℕ
rounded_up a b = cond (eqb b 0) 0 ((a + (b - 1)) / b)
