-- What the records show lies within the output.
use Rattle.std.proofs.Common.{arith}
use Rattle.simulate_file.proofs.take_block.Goals as goal

pub overflow_mul-result : goal.overflow_mul-result
overflow_mul-result c =
    let long = c.run-ran.ensures.long.1 in
    rw c.shape_of-shape.ensures (omega (arith, long, c.well_formed))
