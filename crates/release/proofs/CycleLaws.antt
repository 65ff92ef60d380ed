-- The cycle is rounded to the nearest tick, and lies in 20 to 720.
use Prim.Native.Nat.{ℕ, ◌*◌, ◌≤◌, ◌<◌}
use mathlib.Core.Path.{◌≡◌, refl}
use native.Mathlib.Omega.{arith}
use native.Mathlib.Nat.{lt_of_mul-lt-mul_right}
use Rattle.release.specs.Cycle.{to_nearest, cycle_ticks}
use Rattle.release.specs.Nearest.{Nearest}
use Rattle.release.proofs.NearestLaws.{nearest, not_above, not_below}

module _ (vehicles rate : ℕ) where
  -- The cycle is the nearest, a half going up: for every rate but 0, and so for every rate of 150 to 1800.
  pub cycle_nearest : 1 ≤ rate → Nearest (36000 * vehicles) rate (cycle_ticks vehicles rate)
  unfolding cycle_ticks
  cycle_nearest h = nearest (36000 * vehicles) rate h

  -- It lies in 20 to 720 ticks, at rates of 150 to 1800 and 1 to 3 vehicles per green.
  pub cycle_most : vehicles ≤ 3 → 150 ≤ rate → cycle_ticks vehicles rate ≤ 720
  cycle_most h l =
      let c = cycle_ticks vehicles rate in
      let above = not_above (36000 * vehicles) rate (omega arith) c (cycle_nearest (omega arith)) in
      let p : c * rate < 721 * rate = omega arith in
      omega (arith, lt_of_mul-lt-mul_right rate p)

  pub cycle_least : 1 ≤ vehicles → 1 ≤ rate → rate ≤ 1800 → 20 ≤ cycle_ticks vehicles rate
  cycle_least h some l =
      let c = cycle_ticks vehicles rate in
      let below = not_below (36000 * vehicles) rate some c (cycle_nearest some) in
      let p : 19 * rate < c * rate = omega arith in
      omega (arith, lt_of_mul-lt-mul_right rate p)

pub no_cycle : (vehicles : ℕ) → cycle_ticks vehicles 0 ≡ 0
unfolding cycle_ticks to_nearest
no_cycle v = refl
