-- Document 02, A10: "Use the ITE kinematic formula with 1 s reaction, 3.05 m/s² and 9.81 m/s²", in whole numbers and without a division.
--
-- The formula's time is reaction + speed ÷ (2 × deceleration + 2 × gravity × grade), in seconds. The speed is v × 1000 m in 3600 s, the
-- grade is s ÷ 1000, and y ticks are y ÷ 10 s. What is divided by is positive for each grade in range, 4.5304 at -80. So y ticks are no
-- shorter than the formula's time exactly if
--
--     v × 1000 ÷ 3600  ≤  (y ÷ 10 - 1) × (2 × 3.05 + 2 × 9.81 × s ÷ 1000).
--
-- Both sides are whole numbers once they are multiplied by 3600 (seconds of an hour), 10 (ticks of a second), 100 (centimetres of a metre)
-- and 1000 (per mille of the grade). They are then 800 times those of the page's formula: 800 × 1250000 × v, and
-- 800 × (y - 10) × 9 × (305000 + 981 × s).
use Rattle.std.specs.Prelude.{ℕ, ◌*◌, ◌≤◌, ℤ, pos, ◌+ℤ◌, ◌-ℤ◌, ◌*ℤ◌, ◌≤ℤ◌}

-- The reaction in ticks; deceleration and gravity in centimetres per second, per second.
abbrev pub reaction : ℤ
reaction = pos 10

abbrev pub deceleration : ℤ
deceleration = pos 305

abbrev pub gravity : ℤ
gravity = pos 981

-- Twice what the vehicle slows by on its grade, in thousandths of a centimetre per second, per second.
unfoldable pub slowing_of : ℤ → ℤ
slowing_of s = pos 2 *ℤ (deceleration *ℤ pos 1000 +ℤ gravity *ℤ s)

-- On a grade in range, so many ticks are no shorter than the formula's time.
unfoldable pub Enough : ℤ → ℤ → ℕ → Type 0
Enough v s y = (v *ℤ pos (1000 * 10 * 100 * 1000)) ≤ℤ ((pos y -ℤ reaction) *ℤ (slowing_of s *ℤ pos 3600))

-- "Rounded up": the least whole number of ticks that is no shorter than the formula's time. There is one such number (law `no_other`).
pub record LeastEnough (v s : ℤ) (y : ℕ) : Type 0 where
  pub enough : Enough v s y
  pub least : (other : ℕ) → Enough v s other → y ≤ other
