-- A row has numbers.
use native.Mathlib.Omega.{arith}
use Rattle.tick_row.specs.Row.{row_size}
use Rattle.tick_line.specs.Reading.{words_wanted}
use Rattle.tick_line.proofs.reading.words_wanted.Goals as goal

pub overflow_sub-result : goal.overflow_sub-result
unfolding row_size
overflow_sub-result c = omega (arith, c.row_size.ensures)

pub returns : goal.returns
unfolding words_wanted
returns c = rw c.row_size.ensures
