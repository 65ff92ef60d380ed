-- The tick is the one that is asked for the rate, and its cycle is the rate's.
use Rattle.rate_sheet.proofs.AskedLaws.{asked_cycle}
use Rattle.rate_sheet.specs.Sheet.{first_tick}
use mathlib.Core.Path.{◌≡◌, ap, ◌∙◌}
use native.Mathlib.Omega.{arith}
use Rattle.tick.specs.declared.Ticked.{Ticked}
use Rattle.rate_sheet.proofs.cycle.Goals as goal
use Rattle.rate_sheet.proofs.cycle.Goals.{After-tick}

ticks : (c : After-tick) → let a = c.args in
    c.tick.result.cycle ≡ (first_tick a.vehicles a.rate).cycle
unfolding first_tick
ticks c =
    ap (λ (t : Ticked). t.cycle) c.tick.ensures.is
    ∙ rw (c.asking.ensures, c.power_up.ensures.is, c.ramp-site.ensures)

pub returns : goal.returns
returns c =
    let a = c.args in (record { ticks = ticks c; is = ticks c ∙ asked_cycle a.rate (omega arith) (omega arith) a.vehicles (omega arith) (omega arith) })
