-- Document 02, A8: speeds in km/h from the travel times of vehicles over a lane's pair of loops, which lie 6.1 m apart. 6.1 m in 1 ms are
-- 21960 km/h.
use Rattle.std.specs.Prelude.{ℕ, ◌+◌, ◌-◌, ◌*◌, ◌^◌, ◌≤◌, ◌≡◌, Bool, true, false, not, ◌&&◌, ◌||◌, leb, pos, negsuc, Float}
use Rattle.std.specs.Float.{fin, binary64}
use Rattle.std.specs.Float.Ieee.{div, le, eq, of_int}
use Rattle.std.specs.Float.Ieee.Positive.{num, den, positive}

-- A whole number as a double. Up to 2^53 it is that number itself.
abbrev pub whole : ℕ → Float
whole n = of_int binary64 (pos n)

-- "The double-precision quotient of 21960 × vehicles timed and their total milliseconds."
unfoldable pub speed_of : ℕ → ℕ → Float
speed_of vehicles millis = div binary64 (whole (21960 * vehicles)) (whole millis)

-- Vehicles that were timed: some, at most as many as six lanes have in a period, each in 1 to 65535 ms.
pub record Timed (vehicles millis : ℕ) : Type 0 where
  pub some : 1 ≤ vehicles
  pub few : vehicles ≤ 1800
  pub least : vehicles ≤ millis
  pub most : millis ≤ 65535 * vehicles

-- How far two numbers are apart.
abbrev pub apart : ℕ → ℕ → ℕ
apart p q = (p - q) + (q - p)

-- "Off by at most the exact value ÷ 2^52": x is finite and above zero, and |x - a / b| × 2^52 ≤ a / b. As x is num x / den x, both sides are
-- multiplied by b × den x.
pub record Near (x : Float) (a b : ℕ) : Type 0 where
  pub finite : positive x ≡ true
  pub off : apart (num x * b) (a * den x) * 2 ^ 52 ≤ a * den x

-- The same of a speed of so many vehicles timed over so many milliseconds.
unfoldable pub SpeedNear : Float → ℕ → ℕ → Type 0
SpeedNear x vehicles millis = Near x (21960 * vehicles) millis

-- Whether a speed is at or below a whole threshold.
unfoldable pub at_most : Float → ℕ → Bool
at_most x t = le x (whole t)

-- "Testing it against a whole threshold agrees always with testing 21960 × vehicles against threshold × milliseconds."
unfoldable pub TestsExactly : Float → ℕ → ℕ → Type 0
TestsExactly x vehicles millis = (t : ℕ) → at_most x t ≡ leb (21960 * vehicles) (t * millis)

-- 0, 0.25 = 1 × 2^-2, and 21960 = 2745 × 2^3.
abbrev pub no_speed : Float
no_speed = fin false 0 (pos 0)

abbrev pub least_speed : Float
least_speed = fin false 1 (negsuc 1)

abbrev pub most_speed : Float
most_speed = fin false 2745 (pos 3)

-- "A kept speed is 0 or from 0.25 to 21960; else the old 13." A double that is no number is none of these; -0 is 0.
unfoldable pub speed_spoilt : Float → Bool
speed_spoilt x = not (eq x no_speed || (le least_speed x && le x most_speed))
