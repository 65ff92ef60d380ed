-- The four lanes, and the sign.
use Rattle.group.specs.Indications.{indications_of}
use Rattle.group.proofs.indication.shown.Goals as goal

pub returns : goal.returns
unfolding indications_of
returns c =
    simp (
      c.sign_shown.ensures,
      c.lower_shown-4.ensures,
      c.lower_shown-3.ensures,
      c.lower_shown-2.ensures,
      c.lower_shown.ensures,
      c.lane_shown-d.ensures,
      c.lane_shown-c.ensures,
      c.lane_shown-b.ensures,
      c.lane_shown-a.ensures,
    )
