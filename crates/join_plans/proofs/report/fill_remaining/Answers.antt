-- The text fits, so it stands there whole.
use Prim.Native.Nat.{◌≤◌, ◌<◌}
use mathlib.Core.Path.{ap, ap₂, sym, ◌∙◌}
use mathlib.Core.List.{◌++◌}
use native.Mathlib.Omega.{arith}
use borrow.Author.Rules.{rules}
use lib.ListN.{length, drop}
use Rattle.text.specs.Put.{farthest}
use Rattle.text.proofs.PutsLaws.{puts_as, puts_front}
use Rattle.joining.specs.declared.PlanList.{PlanList}
use Rattle.refusals.specs.declared.Refusal.TheVariants.{TooManyEntries}
use Rattle.join_plans.specs.JoinedSite.{plan_of}
use Rattle.join_plans.specs.Report.{remain_text}
use Rattle.join_plans.proofs.ReportLaws.{remain_most}
use Rattle.join_plans.proofs.report.fill_remaining.Goals as goal

pub returns : goal.returns
returns c =
    let a = c.args in
    let name = a.name.now in
    let other = a.other.now in
    let text = remain_text TooManyEntries name (plan_of a.site) other (plan_of a.works) in
    let same =
    ap₂ (λ (x y : PlanList). remain_text a.refusal name x other y) c.plan_of.ensures c.plan_of-2.ensures
    ∙ ap (λ n. remain_text n name (plan_of a.site) other (plan_of a.works)) c.requires.0 in
    let room : 8268 ≤ length a.out.now = search rules in
    let l : length a.out.now < farthest = search rules in
    let f = puts_front l c.new-text.ensures.bytes c.new-text.ensures.end (omega (arith, remain_most name a.site other a.works c.requires.1)) (puts_as same c.put_remaining.ensures) in (record { count = f.0; buffer = search rules ∙ f.1 ∙ ap (λ n. text ++ drop n a.out.now) (sym f.0) })
