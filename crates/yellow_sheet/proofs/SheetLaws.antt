-- How long the sheet is, and the grades of its columns.
use Prim.Native.Nat.{ℕ, ◌^◌, ◌≤◌}
use mathlib.Core.Path.{◌≡◌, refl}
use native.Mathlib.Omega.{arith}
use lib.IntN.{pos, nat_abs, ◌*ℤ◌}
use lib.ListN.{length}
use Rattle.text.specs.Decimal.{decimal}
use Rattle.phrases.specs.Phrases.{blank_and_seconds}
use Rattle.rounding.specs.Up.{rounded_up}
use Rattle.slope.specs.Slope.{least_grade, is_from, speed_in, grade_in, divisor_of, ticks_of, yellow_at}
use Rattle.slope.proofs.SizeLaws.{small_sum}
use Rattle.yellow_sheet.specs.Sheet.{grade_of, grade_text, yellow_text, speed_line, sheet_text}

pub sheet_length : length sheet_text ≡ 4395
unfolding sheet_text grade_text speed_line yellow_text blank_and_seconds decimal is_from speed_in grade_in divisor_of ticks_of yellow_at rounded_up
sheet_length = refl

-- A column's grade is a number of the machine, and is read back as it is.
pub step_size : (column : ℕ) → column ≤ 16 → nat_abs (pos 10 *ℤ pos column) ≤ 2 ^ 32
step_size column h = omega (arith, h)

pub grade_size : (column : ℕ) → column ≤ 16 → nat_abs (grade_of column) ≤ 2 ^ 32
grade_size column h = omega (arith, small_sum least_grade (pos 10 *ℤ pos column) 80 160 (omega arith) (omega (arith, h)))
