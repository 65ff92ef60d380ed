-- One less than the place.
use Rattle.desk.specs.Desk.{has_place}
use Rattle.desk.proofs.has_place.Goals as goal

pub returns : goal.returns
unfolding has_place
returns c = c.enrolled_at.ensures
