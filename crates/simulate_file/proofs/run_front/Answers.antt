-- What is taken and what is held are the front.
use Rattle.std.proofs.Common.{sym, arith, length-take-le, rules}
use Rattle.tick_record.proofs.RecordLaws.{some_record}
use Rattle.simulate_file.proofs.run_front.Goals as goal

pub taken-n-requires : goal.taken-n-requires
taken-n-requires g c = omega (arith, c.size.ensures, some_record c.shape_of-shape.result.lanes c.shape_of-shape.result.mainline)

pub slice_bounds-run_block-end-2 : goal.slice_bounds-run_block-end-2
slice_bounds-run_block-end-2 g c = sym (length-take-le _ _ (search rules))

pub returns : goal.returns
returns g c =
    omega (arith, c.holding.ensures, c.requires, c.move_front.auto.buffer)
