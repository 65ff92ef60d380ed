-- Four letters are all of them.
use lib.ListN.{length-take}
use lib.Seq.{take_all}
use borrow.Author.Rules.{rules}
use Rattle.tick_text.proofs.lamps.put_first.Goals as goal

pub returns-then-k-ge4 : goal.returns-then-k-ge4
returns-then-k-ge4 c = rw (take_all _ _ c.if-k-ge4.true) c.put.ensures

pub slice_bounds-put-end-2 : goal.slice_bounds-put-end-2
slice_bounds-put-end-2 c = simp length-take (search rules)
