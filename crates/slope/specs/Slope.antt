-- Document 02, A10: the yellow worked out from an approach speed v and a grade s. Both are any numbers, negative ones too.
use Rattle.std.specs.Prelude.{ℕ, ◌+◌, ◌*◌, Bool, cond, ◌&&◌, ℤ, pos, neg_ℤ, nat_abs, ◌+ℤ◌, ◌*ℤ◌}
use Rattle.std.specs.Prelude.{Result, Ok, Err}
use Rattle.std.specs.Int.Signed.{le_z}
use Rattle.rounding.specs.Up.{rounded_up}
use Rattle.refusals.specs.declared.Refusal.{Refusal}
use Rattle.refusals.specs.declared.Refusal.TheVariants.{BadApproach}

-- From low to high, both included.
unfoldable pub is_from : ℤ → ℤ → ℤ → Bool
is_from low high x = le_z low x && le_z x high

-- "Approach speed v, 20-80 km/h."
abbrev pub least_speed : ℤ
least_speed = pos 20

abbrev pub most_speed : ℤ
most_speed = pos 80

unfoldable pub speed_in : ℤ → Bool
speed_in v = is_from least_speed most_speed v

-- "Grade s in per mille, downhill negative, -80 to 80."
abbrev pub least_grade : ℤ
least_grade = neg_ℤ (pos 80)

abbrev pub most_grade : ℤ
most_grade = pos 80

unfoldable pub grade_in : ℤ → Bool
grade_in s = is_from least_grade most_grade s

-- "9 × (305000 + 981 × s)": positive for each grade in range, 2038680 at -80.
unfoldable pub divisor_of : ℤ → ℤ
divisor_of s = pos 9 *ℤ (pos 305000 +ℤ pos 981 *ℤ s)

-- "In ticks the yellow is 10 + 1250000 × v ÷ (9 × (305000 + 981 × s)), rounded up." Speed and divisor are positive here, and so their
-- sizes are themselves.
unfoldable pub ticks_of : ℤ → ℤ → ℕ
ticks_of v s = 10 + rounded_up (1250000 * nat_abs v) (nat_abs (divisor_of s))

-- The ticks, or the refusal: "16: speed or grade out of range; the yellow given is 0."
unfoldable pub yellow_at : ℤ → ℤ → Result ℕ Refusal
yellow_at v s = cond (speed_in v && grade_in s) (Ok (ticks_of v s)) (Err BadApproach)

-- The yellow given, in ticks: 0 where it is refused.
abbrev pub ticks_given : Result ℕ Refusal → ℕ
ticks_given (Ok ticks) = ticks
ticks_given (Err refusal) = 0
