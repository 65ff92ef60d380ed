-- The sum fits, and is the definition's.
use Rattle.tick_row.specs.Row.{long_of}
use borrow.Author.Rules.{rules}
use Rattle.tick_row.proofs.long_of.Goals as goal

pub returns : goal.returns
unfolding long_of
returns c = search rules
