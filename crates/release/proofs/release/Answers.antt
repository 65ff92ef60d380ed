-- No lane, or the four lanes.
use Rattle.release.specs.Release.{release_of}
use borrow.Author.Tests.{eq-eqb, ne_eqb}
use Rattle.release.proofs.release.Goals as goal

pub returns-then-released-eq0 : goal.returns-then-released-eq0
unfolding release_of
returns-then-released-eq0 c = rw (eq-eqb _ _ c.if-released-eq0.true)

pub returns : goal.returns
unfolding release_of
returns c =
    simp (
      ne_eqb _ _ c.if-released-eq0.false,
      c.of_lanes.ensures,
      c.green_if-d.ensures,
      c.lane_at-4.ensures,
      c.green_if-c.ensures,
      c.lane_at-3.ensures,
      c.green_if-b.ensures,
      c.lane_at-2.ensures,
      c.green_if-a.ensures,
      c.lane_at.ensures,
    )
