-- The loop's invariant: storing the lanes that are left, from their place on, leaves what storing all leaves.
use Rattle.poll.specs.Poll.{mainline_row}
use Rattle.poll.proofs.RowLaws.{RowsLeft}
use Rattle.poll.proofs.store_mainline.Given as goal

abbrev pub invariant-loop-j : goal.invariant-loop-j
invariant-loop-j l = RowsLeft (mainline_row l.c) 6 l.initial.out l.at l.m l.out l.j
