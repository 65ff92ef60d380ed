-- Between the two ends.
use mathlib.Core.Path.{◌∙◌, ap}
use mir.Facts.{to_z-of_z}
use Rattle.slope.specs.Slope.{is_from, least_grade, most_grade, grade_in}
use Rattle.slope.proofs.grade_in.Goals as goal

pub returns : goal.returns
unfolding grade_in
returns c = c.is_from.ensures ∙ ap (is_from least_grade most_grade) (to_z-of_z c.ranges.grade)
