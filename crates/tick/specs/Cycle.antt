-- The cycle that an accepted tick gives, at a site with so many vehicles per green: in the words of document 02's A2 and of document 01,
-- and with what follows from the ranges of rates and vehicles.
use Rattle.std.specs.Prelude.{ℕ, ◌*◌, ◌≤◌, ◌≡◌}
use Rattle.wanted.specs.declared.wish.Wish.{Wish}
use Rattle.wanted.specs.declared.wish.Wish.TheVariants.{Metering}
use Rattle.release.specs.Nearest.{Nearest}

-- Where metering at this rate is wished:
pub record MeteringCycle (vehicles rate cycle : ℕ) : Type 0 where
  -- "The cycle is the nearest whole tick, a half going up", to 36000 × V ÷ rate.
  pub nearest : Nearest (36000 * vehicles) rate cycle
  -- It lies in 20 to 720: rates are 150 to 1800, and V is 1 to 3.
  pub least : 20 ≤ cycle
  pub most : cycle ≤ 720

-- "The cycle in force is that of the rate wished; a tick that wishes no metering has none": 0.
pub record Cycled (vehicles : ℕ) (wish : Wish) (cycle : ℕ) : Type 0 where
  pub metering : (rate : ℕ) → wish ≡ Metering rate → MeteringCycle vehicles rate cycle
  pub other : ((rate : ℕ) → wish ≡ Metering rate → ⊥) → cycle ≡ 0
