-- The sum is the definition's.
use Rattle.tick_row.specs.Row.{mainline_at}
use borrow.Author.Rules.{rules}
use Rattle.tick_row.proofs.mainline_at.Goals as goal

pub returns : goal.returns
unfolding mainline_at
returns c = search rules
