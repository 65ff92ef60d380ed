-- Document 01, 'Lanes in metering', with document 02's A2: the cycle, and the fractional offset. Both are in ticks.
use Rattle.std.specs.Prelude.{ℕ, ◌+◌, ◌*◌, ◌/◌, ◌%◌, cond, ltb, eqb}
use Rattle.rounding.specs.Up.{rounded_up}

-- a ÷ b to the nearest whole number, a half going up: rounded down where less than half of b is left, else one more; by 0, 0.
unfoldable pub to_nearest : ℕ → ℕ → ℕ
to_nearest a b = cond (eqb b 0) 0 (cond (ltb (2 * (a % b)) b) (a / b) (a / b + 1))

-- "Cycle = 36000 × V ÷ rate", and "the cycle is the nearest whole tick, a half going up"; a rate of 0 has none.
unfoldable pub cycle_ticks : ℕ → ℕ → ℕ
cycle_ticks vehicles rate = to_nearest (36000 * vehicles) rate

-- "The offset is still cycle ÷ n rounded up."
unfoldable pub offset_ticks : ℕ → ℕ → ℕ
offset_ticks cycle n = rounded_up cycle n
