-- The code's tests are the definition's.
use lib.Ieee.{of_bits}
use Rattle.lane_speeds.specs.Speeds.{slower_of}
use Rattle.lane_speeds.proofs.slower.Goals as goal

pub returns-then-slowest : goal.returns-then-slowest
unfolding slower_of of_bits
returns-then-slowest c = rw c.if-slowest.true

pub returns-then-x-slowest : goal.returns-then-x-slowest
unfolding slower_of of_bits
returns-then-x-slowest c = rw (c.if-slowest.false, c.if-x-slowest.true)

pub returns : goal.returns
unfolding slower_of of_bits
returns c = rw (c.if-slowest.false, c.if-x-slowest.false)
