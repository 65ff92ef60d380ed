-- No record is empty.
use Rattle.std.proofs.Common.{arith, ◌<◌}
use Rattle.tick_record.proofs.RecordLaws.{some_record}
use Rattle.simulate_file.proofs.single.take_records.Goals as goal
use Rattle.simulate_file.proofs.single.take_records.Goals.{After-size}

some : (c : After-size) → 0 < c.size.result
some c =
    let shape = c.shape_of-shape.result in
    omega (arith, c.size.ensures, some_record shape.lanes shape.mainline)

pub chunks-record-items-requires : goal.chunks-record-items-requires
chunks-record-items-requires c = some (goal.at.chunks-record-items-requires c).After-size

pub loop-record-init : goal.loop-record-init
loop-record-init c =
    (rw (c.into_iter-record-iterator.ensures.into_iter_gives, c.chunks-record-items.ensures.size) (some (goal.at.loop-record-init c).After-size), tt)
