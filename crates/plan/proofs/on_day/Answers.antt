-- A shift right is a division by a power of 2, and the mask 1 a remainder by 2.
use Rattle.plan.specs.Entry.{on_day}
use lib.Bits.{and_mask}
use borrow.Author.Tests.{lt-ltb, le-ltb}
use Prim.Native.Nat.{◌/◌, ◌^◌}
use Rattle.plan.proofs.on_day.Goals as goal

pub returns-then-day-ge-DAY_TYPES : goal.returns-then-day-ge-DAY_TYPES
unfolding on_day
returns-then-day-ge-DAY_TYPES c = rw (le-ltb _ _ c.if-day-ge-DAY_TYPES.true)

pub returns : goal.returns
unfolding on_day
returns c = let a = c.args in rw (lt-ltb _ _ c.if-day-ge-DAY_TYPES.false, and_mask (a.days / 2 ^ a.day) 1)
