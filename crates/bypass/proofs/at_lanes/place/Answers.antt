-- One less, and 0 of none.
use borrow.Author.Rules.{rules}
use Rattle.bypass.specs.Lanes.{place_of}
use Rattle.bypass.proofs.at_lanes.place.Goals as goal

pub returns : goal.returns
unfolding place_of
returns c = search rules
