-- The code's tests are the definition's.
use Rattle.bypass.specs.Bypass.{kept_of}
use Rattle.bypass.proofs.kept.Goals as goal

pub returns-then-b : goal.returns-then-b
unfolding kept_of
returns-then-b c = rw (c.if-b.true, c.ends.ensures)

pub returns : goal.returns
unfolding kept_of
returns c = rw c.if-b.false c.begins.ensures
