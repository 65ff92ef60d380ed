-- The start is tested as the definition tests it, the days by what they share.
use Rattle.joining.proofs.DayBits.{all_days}
use Rattle.joining.proofs.CoversLaws.{in_words}
use Rattle.joining.specs.Joining.{covers}
use borrow.Author.Tests.{eq-eqb, ne_eqb}
use Rattle.joining.proofs.covers.Goals as goal

pub returns-then-other-e : goal.returns-then-other-e
unfolding covers
returns-then-other-e c = let a = c.args in
    let all = in_words a.other a.e _ (rw (ne_eqb _ _ c.if-other-e.true)) in record { is = all.0; words = all.1 }

pub returns : goal.returns
unfolding covers
returns c = let a = c.args in
    let all = in_words a.other a.e _ (rw (eq-eqb _ _ c.if-other-e.false) (all_days a.other a.e)) in record { is = all.0; words = all.1 }
