-- There is a speed where a vehicle was timed.
use Rattle.levels.specs.Measures.{speed_over}
use borrow.Author.Tests.{lt-ltb, le-ltb}
use native.Mathlib.Omega.{arith}
use Rattle.levels.proofs.measure.speed_over.Goals as goal

pub returns-then-t-eq0 : goal.returns-then-t-eq0
unfolding speed_over
returns-then-t-eq0 c = rw (le-ltb 0 c.args.t.timed (omega arith))

pub returns : goal.returns
unfolding speed_over
returns c = rw (lt-ltb 0 c.args.t.timed (omega arith), c.quotient.ensures.is)
