-- A cycle of 720 ticks at the most fits.
use mathlib.Core.Path.{◌≡◌, ◌∙◌}
use native.Mathlib.Omega.{arith}
use Rattle.wanted.specs.Wish.{rate_of}
use Rattle.release.specs.Cycle.{cycle_ticks}
use Rattle.tick.proofs.cycle_of.Goals as goal
use Rattle.tick.proofs.cycle_of.Goals.{After-cycle_ticks}

is : (c : After-cycle_ticks) → c.cycle_ticks.result ≡ cycle_ticks c.args.vehicles (rate_of c.args.wish)
is c = c.cycle_ticks.ensures.is ∙ rw c.rate_of.ensures

pub overflow_cast-result : goal.overflow_cast-result
overflow_cast-result c = omega (arith, is c)

pub returns : goal.returns
returns c = is c
