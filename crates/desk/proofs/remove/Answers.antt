-- The check, then the change.
use Rattle.refusals.proofs.NoneLaws.{no_refusal, refused, accepted}
use mathlib.Core.Path.{sym, ◌∙◌}
use native.Mathlib.Omega.{arith}
use Rattle.desk.specs.Desk.{remove_of}
use Rattle.desk.proofs.DeskLaws.{passes}
use Rattle.desk.proofs.Promises.{remove_promises}
use borrow.Author.Rules.{rules}
use Rattle.desk.proofs.remove.Goals as goal

pub returns-then-is_some : goal.returns-then-is_some
unfolding remove_of
returns-then-is_some c = let all = remove_promises c.args.desk c.args.cabinet (search rules) (record { refusal = c.refusal_of-refusal.result; desk = c.args.desk }) (search rules)
    (rw (← c.refusal_of-refusal.ensures, refused _ (sym c.is_some.ensures ∙ c.if-is_some.true))) in record { is = all.0; words = all.1.0; no_other = all.1.1.0; passes = all.1.1.1.0; in_range = all.1.1.1.1 }

pub without_cabinet-requires : goal.without_cabinet-requires
without_cabinet-requires c = omega (arith, (passes _ _ _ (sym c.refusal_of-refusal.ensures ∙ no_refusal _ (accepted _ (sym c.is_some.ensures ∙ c.if-is_some.false)))).number_most)

pub returns : goal.returns
unfolding remove_of
returns c = let all = remove_promises c.args.desk c.args.cabinet (search rules) (record { refusal = c.refusal_of-refusal.result; desk = c.without_cabinet.result }) (search rules)
    (rw (← c.refusal_of-refusal.ensures, accepted _ (sym c.is_some.ensures ∙ c.if-is_some.false), c.without_cabinet.ensures)) in record { is = all.0; words = all.1.0; no_other = all.1.1.0; passes = all.1.1.1.0; in_range = all.1.1.1.1 }
