-- The speed is a natural number and the divisor a positive one, and the quotient is small.
use Prim.Native.Nat.{ℕ, ◌+◌, ◌-◌, ◌*◌, ◌/◌, ◌≤◌, ◌<◌}
use mathlib.Core.Path.{◌≡◌, ◌∙◌, ap}
use native.Mathlib.Omega.{arith}
use native.Mathlib.Nat.{div-lt_iff_lt-mul}
use lib.IntN.{ℤ, pos, nat_abs}
use mir.Syntax.{w64}
use mir.Val.{to_z, of_z}
use mir.Facts.{to_z-of_z}
use Rattle.rounding.proofs.UpLaws.{up_is}
use Rattle.slope.specs.Slope.{divisor_of}
use Rattle.slope.proofs.SizeLaws.{read_back}
use Rattle.slope.proofs.SlopeLaws.{Speed, speed, grade_size, tilted, tilted_least, tilted_most, divisor_least, divisor_is, ticks_by}
use Rattle.slope.proofs.ticks.Goals as goal
use Rattle.slope.proofs.ticks.Goals.{After-divisor-below}

in_range : (c : After-divisor-below) → nat_abs c.args.grade ≤ 80
in_range c = grade_size c.args.grade c.requires.grade_value

swift : (c : After-divisor-below) → Speed c.args.speed
swift c = speed c.args.speed c.requires.speed_value

-- The two numbers as they are read back.
going : (c : After-divisor-below) → to_z w64 (of_z w64 c.args.speed) ≡ pos (nat_abs c.args.speed)
going c = to_z-of_z c.ranges.speed ∙ (swift c).whole

below : (c : After-divisor-below) → to_z w64 (of_z w64 c.divisor-below.result) ≡ pos (9 * tilted c.args.grade)
below c =
    let s = c.args.grade in
    let h = in_range c in
    ap (λ (z : ℤ). to_z w64 (of_z w64 z)) (c.divisor-below.ensures ∙ ap divisor_of (to_z-of_z c.ranges.grade) ∙ divisor_is s h)
    ∙ read_back (pos (9 * tilted s)) (omega (arith, tilted_most s h))

some : (c : After-divisor-below) → 1 ≤ 9 * tilted c.args.grade
some c = divisor_least c.args.grade (in_range c)

-- What the code divides.
dividend : (c : After-divisor-below) → ℕ
dividend c = let b = 9 * tilted c.args.grade in 1250000 * nat_abs c.args.speed + (b - 1)

small : (c : After-divisor-below) → dividend c / (9 * tilted c.args.grade) ≤ 50
unfolding dividend
small c =
    let b = 9 * tilted c.args.grade in
    let l : dividend c < 51 * b = omega (arith, (swift c).most, tilted_least c.args.grade (in_range c)) in
    let p : dividend c / b < 51 = (div-lt_iff_lt-mul {k = b} (omega (arith, some c))).1 l in
    omega (arith, p)

pub overflow_cast-below : goal.overflow_cast-below
overflow_cast-below c = rw (below c) (tt, record { fits = omega (arith, tilted_most c.args.grade (in_range c)) })

pub overflow_cast-result : goal.overflow_cast-result
overflow_cast-result c = rw (going c) (tt, record { fits = omega (arith, (swift c).most) })

pub overflow_mul-result : goal.overflow_mul-result
overflow_mul-result c = rw (going c) (record { fits = omega (arith, (swift c).most) })

pub overflow_sub-result : goal.overflow_sub-result
overflow_sub-result c = rw (below c) (omega (arith, some c))

pub overflow_add-result : goal.overflow_add-result
overflow_add-result c = rw (below c, going c) (record { fits = omega (arith, (swift c).most, tilted_most c.args.grade (in_range c)) })

pub overflow_add-result-2 : goal.overflow_add-result-2
unfolding dividend
overflow_add-result-2 c = rw (below c, going c) (record { fits = omega (arith, small c) })

pub overflow_cast-result-2 : goal.overflow_cast-result-2
unfolding dividend
overflow_cast-result-2 c = rw (below c, going c) (record { fits = omega (arith, small c) })

pub returns : goal.returns
returns c =
    let v = c.args.speed in
    let s = c.args.grade in
    rw (below c, going c, ticks_by v s (in_range c), up_is (9 * tilted s) (some c) (1250000 * nat_abs v))

pub nonzero_div-result : goal.nonzero_div-result
nonzero_div-result c = rw (below c) (omega (arith, some c))
