-- The four lanes' numbers, array by array.
use Rattle.lanes.specs.Lanes.{lanes_of}
use borrow.Author.Rules.{rules}
use Rattle.lanes.proofs.of_lanes.Goals as goal

pub returns : goal.returns
unfolding lanes_of
returns c = search rules
