-- The code's test is the definition's.
use borrow.Author.Rules.{rules}
use Rattle.speed.specs.Speed.{at_most}
use Rattle.speed.proofs.at_most.Goals as goal

pub returns : goal.returns
unfolding at_most
returns c = search rules
