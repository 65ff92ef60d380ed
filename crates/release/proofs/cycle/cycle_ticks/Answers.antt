-- The nearest whole number to the quotient.
use Rattle.release.specs.Cycle.{cycle_ticks}
use Rattle.release.proofs.CycleLaws.{cycle_nearest}
use Rattle.release.proofs.cycle.cycle_ticks.Goals as goal

pub returns : goal.returns
unfolding cycle_ticks
returns c =
    let a = c.args in (record { is = c.to_nearest.ensures; nearest = λ h. rw c.to_nearest.ensures (cycle_nearest a.vehicles a.rate h) })
