-- The quotients are the definition's.
use Rattle.levels.specs.Measures.{measures_of, measured_of}
use Rattle.levels.proofs.ExactLaws.{with_exact}
use borrow.Author.Tests.{eq-eqb, ne_eqb}
use Rattle.levels.proofs.measure.measured_on.Goals as goal

pub returns-then-t-eq0 : goal.returns-then-t-eq0
unfolding measured_of
returns-then-t-eq0 c = let all = with_exact _ _ _ (rw (← c.lane_totals-t.ensures.is, eq-eqb _ _ c.if-t-eq0.true)) in record { is = all.0; near = all.1.0; exact = all.1.1 }

pub returns : goal.returns
unfolding measured_of measures_of
returns c =
    let t = c.lane_totals-t in
    let all = with_exact _ _ _ (rw (← t.ensures.is, ne_eqb _ _ c.if-t-eq0.false, c.flow_of.ensures, c.speed_over.ensures)) in record { is = all.0; near = all.1.0; exact = all.1.1 }
