-- The loop's invariant: storing the lanes that are left, from their place on, leaves what storing all leaves.
use Rattle.poll.specs.Poll.{metered_row}
use Rattle.poll.proofs.RowLaws.{RowsLeft}
use Rattle.poll.proofs.store_metered.Given as goal

abbrev pub invariant-loop-i : goal.invariant-loop-i
invariant-loop-i l = RowsLeft (metered_row l.c) 4 l.initial.out l.at l.n l.out l.i
