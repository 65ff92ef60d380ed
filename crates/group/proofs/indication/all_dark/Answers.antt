-- Nothing lit.
use Rattle.group.specs.Indications.{all_dark}
use borrow.Author.Rules.{rules}
use Rattle.group.proofs.indication.all_dark.Goals as goal

pub returns : goal.returns
unfolding all_dark
returns c = search rules
