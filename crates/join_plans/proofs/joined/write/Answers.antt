-- The join is the definition's, and so is what the site's writer writes.
use mathlib.Core.Path.{ap₂, sym, ◌∙◌}
use Rattle.std.proofs.lemmas.Result.{err_from_is_err_and}
use Rattle.joining.specs.Joining.{joined_of}
use Rattle.join_plans.proofs.JoinedLaws.{refused, written}
use Rattle.join_plans.proofs.joined.write.Goals as goal

pub returns-in_err-list : goal.returns-in_err-list
returns-in_err-list c =
    let a = c.args in
    let p = err_from_is_err_and c.from_residual.result c.from_residual.ensures.1 in
    let all = refused a.site a.works a.out.now _ (sym (c.in_err-list.ensures.is ∙ ap₂ joined_of c.plan_of.ensures c.plan_of-2.ensures)) in
    rw (p.1, p.2) (record { answer = all.0; buffer = all.1.0; back = all.1.1.0; only = all.1.1.1 })

pub returns : goal.returns
returns c =
    let a = c.args in
    let w = c.with_list.ensures in
    let all = written a.site a.works a.out.now _ (sym (c.in_ok-list.ensures.is ∙ ap₂ joined_of c.plan_of.ensures c.plan_of-2.ensures)) c.in_ok-list.ensures.could_be_filed _ _
    (rw w at c.write.ensures.answer) (rw w at c.write.ensures.buffer) (rw w at c.write.ensures.back) c.write.ensures.room in record { answer = all.0; buffer = all.1.0; back = all.1.1.0; only = all.1.1.1 }
