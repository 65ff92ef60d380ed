-- Four lanes' greens.
use Rattle.period.specs.Counting.{green_counted}
use Rattle.period.proofs.count.green_counted.Goals as goal

pub returns : goal.returns
unfolding green_counted
returns c = rw (c.greens_at-4.ensures, c.greens_at-3.ensures, c.greens_at-2.ensures, c.greens_at.ensures)
