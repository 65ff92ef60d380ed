-- Whether the bus has passed, then the bypass.
use Rattle.group.specs.Group.{bypass_in}
use Rattle.group.proofs.bypass_in.Goals as goal

pub returns : goal.returns
unfolding bypass_in
returns c = rw (c.tick.ensures, c.has_passed-passed.ensures)
