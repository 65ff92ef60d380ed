-- The interval, the bypass, the lanes, the release.
use Rattle.group.specs.Group.{moved_of, lanes_moved, moved_with}
use Rattle.group.proofs.tick.Goals as goal

pub returns : goal.returns
unfolding moved_of lanes_moved moved_with
returns c =
    rw (
      c.group_of.ensures,
      c.release-after.ensures,
      c.released_in-released.ensures,
      c.lanes_in-s.ensures,
      c.endings-endings.ensures,
      c.bypass_in-bypass.ensures,
      c.interval_of-now.ensures,
    )
