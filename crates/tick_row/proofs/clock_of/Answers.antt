-- Each number is the definition's.
use Rattle.tick_row.specs.Row.{clock_of}
use Rattle.tick_row.proofs.clock_of.Goals as goal

pub returns : goal.returns
unfolding clock_of
returns g c row is =
    simp (c.long_of.ensures, is _ _ c.number-5.ensures, is _ _ c.number-4.ensures, is _ _ c.number-3.ensures, is _ _ c.number-2.ensures, is _ _ c.number.ensures)
