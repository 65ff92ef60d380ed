-- All are 0 where each is.
use borrow.Author.Rules.{rules}
use Rattle.ranges.proofs.FirstBad.{zeros_each}
use Rattle.ranges.proofs.all_zero.Goals as goal

pub returns : goal.returns
returns c = zeros_each c.args.v.now c.all.result (search rules)
