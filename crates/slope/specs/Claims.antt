-- Document 02, A10, what it asks to be shown, in words without a test: of the answer at speed v and grade s.
use Rattle.std.specs.Prelude.{ℕ, ◌≤◌, ◌≡◌, true, ℤ, pos, neg_ℤ, ◌≤ℤ◌, IsOk, IsOkAnd}
use Rattle.std.specs.Prelude.{Result, Err}
use Rattle.numbers.specs.Within.{is_within}
use Rattle.ranges.specs.Ranges.{timing_range}
use Rattle.refusals.specs.declared.Refusal.{Refusal}
use Rattle.refusals.specs.declared.Refusal.TheVariants.{BadApproach}
use Rattle.slope.specs.Slope.{yellow_at, ticks_given}

-- "Approach speed v, 20-80 km/h, and grade s in per mille, downhill negative, -80 to 80."
pub record InRange (v s : ℤ) : Type 0 where
  pub least_speed_lem : pos 20 ≤ℤ v
  pub most_speed_lem : v ≤ℤ pos 80
  pub least_grade_lem : neg_ℤ (pos 80) ≤ℤ s
  pub most_grade_lem : s ≤ℤ pos 80

-- "16: speed or grade out of range; the yellow given is 0." Nothing else is refused.
pub record Refuses (v s : ℤ) (r : Result ℕ Refusal) : Type 0 where
  pub given : InRange v s → IsOk r
  pub refused : (InRange v s → ⊥) → (r ≡ Err BadApproach) × (ticks_given r ≡ 0)

-- "Lies within 10-60": and so in the ranges that the site file has for its yellow, the sixth timing, and its startup yellow, the tenth,
-- whatever its number of lanes and its minimum green are.
pub record Fits (y : ℕ) : Type 0 where
  pub least : 10 ≤ y
  pub most : y ≤ 60
  pub yellow : (lanes green : ℕ) → is_within (timing_range lanes green 5) y ≡ true
  pub startup : (lanes green : ℕ) → is_within (timing_range lanes green 9) y ≡ true

-- "Never grows as the road tips upward": at the same speed no higher grade in range has a longer yellow, and no lower one a shorter.
pub record NeverGrows (v s : ℤ) (y : ℕ) : Type 0 where
  pub higher : (s' : ℤ) → s ≤ℤ s' → InRange v s' → IsOkAnd (yellow_at v s') (λ y'. y' ≤ y)
  pub lower : (s' : ℤ) → s' ≤ℤ s → InRange v s' → IsOkAnd (yellow_at v s') (λ y'. y ≤ y')

-- Beyond the request, it never falls as the speed rises: on the same grade no higher speed in range has a shorter yellow, and no lower one
-- a longer.
pub record NeverFalls (v s : ℤ) (y : ℕ) : Type 0 where
  pub higher : (v' : ℤ) → v ≤ℤ v' → InRange v' s → IsOkAnd (yellow_at v' s) (λ y'. y ≤ y')
  pub lower : (v' : ℤ) → v' ≤ℤ v → InRange v' s → IsOkAnd (yellow_at v' s) (λ y'. y' ≤ y)
