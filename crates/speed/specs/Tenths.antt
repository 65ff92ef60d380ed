-- A speed in whole tenths of a km/h. Of a speed that comes from counts it is the exact quotient, rounded down (law `tenths_exact`).
use Rattle.std.specs.Prelude.{ℕ, zero, suc, cond, Float}
use Rattle.std.specs.Float.{binary64}
use Rattle.std.specs.Float.Ieee.{div, le}
use Rattle.speed.specs.Speed.{whole}

-- So many tenths of a km/h as a double: k ÷ 10, rounded.
unfoldable pub tenth : ℕ → Float
tenth k = div binary64 (whole k) (whole 10)

-- The greatest number of tenths, up to n, whose double a speed is not below; 0 if there is none.
unfoldable pub greatest : Float → ℕ → ℕ
greatest x zero = 0
greatest x (suc n) = cond (le (tenth (suc n)) x) (suc n) (greatest x n)

-- The same, up to those of 21960 km/h.
unfoldable pub tenths_of : Float → ℕ
tenths_of x = greatest x 219600
