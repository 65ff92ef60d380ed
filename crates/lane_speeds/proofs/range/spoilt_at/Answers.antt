-- The code's test is the definition's.
use borrow.Author.Tests.{lt-ltb, le-ltb}
use lib.Ieee.{of_bits, ne}
use Rattle.lane_speeds.specs.Speeds.{spoilt_at}
use Rattle.lane_speeds.proofs.range.spoilt_at.Goals as goal

pub returns-then-j-m : goal.returns-then-j-m
unfolding spoilt_at
returns-then-j-m c = rw (lt-ltb _ _ c.if-j-m.true) c.spoilt.ensures

pub returns : goal.returns
unfolding spoilt_at of_bits ne
returns c = rw (le-ltb _ _ c.if-j-m.false)
