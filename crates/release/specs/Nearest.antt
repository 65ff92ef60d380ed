-- Document 02, A2: what "the nearest whole tick, a half going up" means of one number.
use Rattle.std.specs.Prelude.{ℕ, ◌+◌, ◌-◌, ◌*◌, ◌≤◌, ◌<◌, ◌≡◌}

-- How far two numbers are apart; one of the differences is 0.
abbrev pub distance : ℕ → ℕ → ℕ
distance x y = (x - y) + (y - x)

-- The whole number r is the nearest to the exact quotient a ÷ b, a half going up. Everything is taken times b, so that it is whole: the
-- quotient is then a, and r is r × b. By 0 no number is.
pub record Nearest (a b r : ℕ) : Type 0 where
  -- Twice the distance from the exact quotient is at most one,
  pub near : 2 * distance a (r * b) ≤ b
  -- and exactly one only upwards.
  pub upwards : 2 * distance a (r * b) ≡ b → a < r * b
