-- The first entry that covers it is asked for; where there is none, nothing is said.
use Rattle.text.proofs.PutsLaws.{puts_as, puts_nothing}
use Rattle.join_plans.proofs.ReportLaws.{no_line, one_line}
use Rattle.join_plans.proofs.report.put_line.Goals as goal

pub returns-then-place-eq0 : goal.returns-then-place-eq0
returns-then-place-eq0 c =
    let a = c.args in
    puts_as (no_line a.name.now a.first a.other.now a.second a.i _ c.entry_at-e.ensures _ c.covering-place.ensures.is c.if-place-eq0.true) puts_nothing

pub returns : goal.returns
returns c =
    let a = c.args in
    puts_as (one_line a.name.now a.first a.other.now a.second a.i _ c.entry_at-e.ensures _ c.covering-place.ensures.is c.if-place-eq0.false _ c.entry_at-by.ensures) c.put_dropped.ensures
