-- What is known is what would be decided.
use mathlib.Core.Path.{refl, sym}
use Rattle.many_ticks.specs.Known.{Holds}
use Rattle.many_ticks.proofs.known.decided_now.Goals as goal

pub returns-then-is_known-clause-decided : goal.returns-then-is_known-clause-decided
unfolding Holds
returns-then-is_known-clause-decided c =
    let is = c.is_known.ensures c.if-is_known.true in
    sym ((rw c.in-Some.is at (c.requires.2 is.0)) c.args.input is.1 c.args.counted refl refl)
