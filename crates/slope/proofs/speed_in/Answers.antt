-- Between the two ends.
use mathlib.Core.Path.{◌∙◌, ap}
use mir.Facts.{to_z-of_z}
use Rattle.slope.specs.Slope.{is_from, least_speed, most_speed, speed_in}
use Rattle.slope.proofs.speed_in.Goals as goal

pub returns : goal.returns
unfolding speed_in
returns c = c.is_from.ensures ∙ ap (is_from least_speed most_speed) (to_z-of_z c.ranges.speed)
