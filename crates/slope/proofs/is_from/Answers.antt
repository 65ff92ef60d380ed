-- Not below the one end, and not above the other.
use mathlib.Core.Path.{◌≡◌}
use mathlib.Core.Bool.{true, false}
use lib.Signed.{lt_z}
use mir.Facts.{to_z-of_z}
use Rattle.slope.specs.Slope.{is_from}
use Rattle.slope.proofs.SlopeLaws.{not_below}
use Rattle.slope.proofs.is_from.Goals as goal

pub returns-then-x-low : goal.returns-then-x-low
unfolding is_from
returns-then-x-low c =
    let below : lt_z c.args.x c.args.low ≡ true = rw (← to_z-of_z c.ranges.x, ← to_z-of_z c.ranges.low) c.if-x-low.true in
    rw (not_below c.args.x c.args.low, below)

pub returns : goal.returns
unfolding is_from
returns c =
    let above : lt_z c.args.x c.args.low ≡ false = rw (← to_z-of_z c.ranges.x, ← to_z-of_z c.ranges.low) c.if-x-low.false in
    rw (not_below c.args.x c.args.low, above, to_z-of_z c.ranges.x, to_z-of_z c.ranges.high)
